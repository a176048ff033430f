-- The cycles of a graph, one after the other.
use Rattle.std.specs.Prelude.{ℕ, List, map}
use Rattle.guppy_package_table.specs.Tables.{TableValue}
use Rattle.guppy_package_graph.specs.IdViews.{id_places_left, ids_graph_of}
use Rattle.guppy_package_graph.specs.declared.all_cycles.AllCycles.{AllCycles}
use Rattle.guppy_package_graph.specs.declared.package_ids.PackageIdsAt.{PackageIdsAt}

-- the graph of cycles that are still to come, and the places of each
abbrev pub cycles_graph_of : AllCycles → TableValue
cycles_graph_of c = c.graph.now

abbrev pub cycles_left : AllCycles → List (List ℕ)
cycles_left c = map (λ x. x.items) c.cycles.now

-- a cycle by its graph and its places
abbrev pub seen_cycle : PackageIdsAt → TableValue × List ℕ
seen_cycle ids = (ids_graph_of ids, id_places_left ids)

abbrev pub all_cycles_left : AllCycles → List (TableValue × List ℕ)
all_cycles_left c = map (λ x. (cycles_graph_of c, x.items)) c.cycles.now
