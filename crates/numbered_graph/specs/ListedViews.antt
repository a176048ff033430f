use Rattle.std.specs.Prelude.{ℕ, List, filter, reverse}
use Rattle.numbered_graph.specs.declared.direction.Direction.{Direction}
use Rattle.numbered_graph.specs.declared.direction.Direction.TheVariants.{Forward, Reverse}
use Rattle.numbered_graph.specs.declared.listed.Listed.{Listed}
use Rattle.numbered_graph.specs.Sets.{has}

-- the list, or in reverse the list reversed
abbrev pub in_direction : {X : Type 0} → Direction → List X → List X
in_direction Forward xs = xs
in_direction Reverse xs = reverse xs

-- the nodes that are still to come
abbrev pub listed_left : Listed → List ℕ
listed_left l = in_direction l.direction (filter (has l.members.now) l.listing.now)
