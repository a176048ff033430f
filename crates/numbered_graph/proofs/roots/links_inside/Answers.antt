use Rattle.std.proofs.Common.{◌≡◌, ◌<◌, All, filter, length, rules, subst, sym}
use Rattle.numbered_graph.specs.Listings.{numbers_below}
use Rattle.numbered_graph.proofs.MemberFacts.{filter_small}
use Rattle.numbered_graph.specs.Roots.{is_inside}
use Rattle.numbered_graph.proofs.Numbers.{kept_more}
use Rattle.numbered_graph.proofs.roots.links_inside.Goals as goal

pub loop-number-preserved : goal.loop-number-preserved
loop-number-preserved c =
    kept_more (is_inside c.args.graph.now.links c.args.set.now) c.loop-number.number c.loop-number.inside.items _ c.is_inside.result c.in_ok-push_if.ensures c.is_inside.ensures c.loop-number.invariant

pub returns-clause-within : goal.returns-clause-within
returns-clause-within c =
    let n = length c.args.graph.now.links in
    let is : c.loop-number.inside.items ≡ filter (is_inside c.args.graph.now.links c.args.set.now) (numbers_below n) = search rules in
    subst (All (λ j. j < n)) (sym is) (filter_small (is_inside c.args.graph.now.links c.args.set.now) n)
