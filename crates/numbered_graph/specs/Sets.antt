-- Sets of nodes as a flag for each node.
use Rattle.std.specs.Prelude.{ℕ, List, Bool, false, not, ◌&&◌, ◌||◌, slice_index_or}
use Rattle.numbered_graph.specs.declared.node_set.Operation.{Operation}
use Rattle.numbered_graph.specs.declared.node_set.Operation.TheVariants.{Union, Intersection, Difference, SymmetricDifference}

-- the node is in the set
abbrev pub has : List Bool → ℕ → Bool
has flags v = slice_index_or flags v false

-- one of the two, and not the other
abbrev pub differs : Bool → Bool → Bool
differs a b = (a && not b) || (b && not a)

-- whether a node is in the result, by whether it is in the one set and in the other
abbrev pub joined : Operation → Bool → Bool → Bool
joined Union a b = a || b
joined Intersection a b = a && b
joined Difference a b = a && not b
joined SymmetricDifference a b = differs a b
