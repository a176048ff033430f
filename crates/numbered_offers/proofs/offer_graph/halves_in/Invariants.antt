use Rattle.std.proofs.Common.{◌≡◌, filter}
use Rattle.numbered_graph.specs.Listings.{numbers_below}
use Rattle.numbered_offers.specs.Graphs.{has_optional_half}
use Rattle.numbered_offers.proofs.offer_graph.halves_in.Given as goal

abbrev pub invariant-loop-number : goal.invariant-loop-number
invariant-loop-number l = l.halves.items ≡ filter (has_optional_half l.edges) (numbers_below l.number)
