use Rattle.std.proofs.Common.{◌≡◌, map}
use Rattle.numbered_graph.specs.Listings.{numbers_below}
use Rattle.numbered_graph.specs.Places.{place_of}
use Rattle.numbered_graph.proofs.listings.places_of.Given as goal

abbrev pub invariant-loop-node : goal.invariant-loop-node
invariant-loop-node l = l.places.items ≡ map (place_of l.ranks l.firm_ranks) (numbers_below l.node)
