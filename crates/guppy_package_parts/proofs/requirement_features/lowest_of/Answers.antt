use Rattle.std.proofs.Common.{◌∙◌}
use Rattle.std.specs.Option.{option_map}
use Rattle.guppy_package_parts.specs.Names.{lower_above}
use Rattle.guppy_package_parts.proofs.EachOnce.{lowest_from-more_names}
use Rattle.guppy_package_parts.proofs.requirement_features.lowest_of.Goals as goal

pub loop-name-preserved : goal.loop-name-preserved
loop-name-preserved c =
    let last = option_map (λ t. t.now) c.args.last in
    let least = option_map (λ t. t.now) c.args.least in
    c.lower_above-lowest.ensures ∙ (λ i. lower_above last (c.loop-name.invariant i) (c.as_str.ensures.value i)) ∙ lowest_from-more_names last least c.args.names.now c.loop-name.name-index c.name-item.result c.loop-name-test.true c.name-item.is
