use Rattle.std.proofs.Common.{◌≡◌, filter, take}
use Rattle.std.specs.Option.{option_map}
use Rattle.list_facts.specs.Texts.{texts}
use Rattle.guppy_package_parts.specs.Names.{is_above, lowest_from}
use Rattle.guppy_package_parts.proofs.requirement_features.lowest_of.Given as goal

abbrev pub invariant-loop-name : goal.invariant-loop-name
invariant-loop-name l =
    option_map (λ t. t.now) l.lowest ≡ lowest_from (option_map (λ t. t.now) l.least) (filter (is_above (option_map (λ t. t.now) l.last)) (texts (take l.name-index l.names)))
