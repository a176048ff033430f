-- Places of packages of a graph that are still to come.
use Rattle.std.specs.Prelude.{ℕ, List}
use Rattle.guppy_package_table.specs.Tables.{TableValue}
use Rattle.guppy_package_graph.specs.declared.places.Places.{Places}

-- their graph
abbrev pub graph_of_places : Places → TableValue
graph_of_places p = p.graph.now

-- the places, in order
abbrev pub left_of_places : Places → List ℕ
left_of_places p = p.left.now
