use Rattle.std.proofs.Common.{◌≡◌, filter, map, take}
use Rattle.test_select_features.specs.LinesOn.{is_link_on, with_lines_on}
use Rattle.test_select_features.proofs.switched_graph.links_on.Given as goal

abbrev pub invariant-loop-number : goal.invariant-loop-number
invariant-loop-number l = l.links.items ≡ map (with_lines_on l.graph l.features l.table) (filter (is_link_on l.graph l.features l.table) (take l.number l.graph.links))
