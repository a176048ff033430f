use Rattle.std.proofs.Common.{◌∙◌, ap, map, string_bytes}
use Rattle.guppy_package_graph.specs.PackagesViews.{all_left}
use Rattle.guppy_package_graph.specs.SetValues.{listed}
use Rattle.nextest_filtering.proofs.ContextFacts.{added, adds, left_as, starts}
use Rattle.nextest_filtering.proofs.parse_context.names_of.Goals as goal

pub loop-member-init : goal.loop-member-init
loop-member-init c =
    let items = c.packages-member-items in
    starts _ (listed c.args.packages.now) _ _ (ap all_left c.into_iter-member-iterator.ensures.into_iter_gives ∙ left_as items.result _ _ items.ensures.graph items.ensures.listed) c.new.ensures.items c.new-2.ensures.items (ap (map string_bytes) c.new-3.ensures.items)

pub loop-member-preserved : goal.loop-member-preserved
loop-member-preserved c = adds _ _ _ _ c.loop-member.names _ _ _ c.loop-member.invariant c.in-Some.ensures.steps c.in_ok-add.ensures

pub returns : goal.returns
returns c = added _ _ _ _ c.loop-member.names c.loop-member.invariant c.in-None.ensures.steps.0 c.packages-member-items.ensures.listing.each
