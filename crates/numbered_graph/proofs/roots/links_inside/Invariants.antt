use Rattle.std.proofs.Common.{◌≡◌, filter}
use Rattle.numbered_graph.specs.Listings.{numbers_below}
use Rattle.numbered_graph.specs.Roots.{is_inside}
use Rattle.numbered_graph.proofs.roots.links_inside.Given as goal

abbrev pub invariant-loop-number : goal.invariant-loop-number
invariant-loop-number l = l.inside.items ≡ filter (is_inside l.graph.links l.set) (numbers_below l.number)
