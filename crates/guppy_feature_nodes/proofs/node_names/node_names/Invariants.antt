use Rattle.std.proofs.Common.{◌≡◌, map, take}
use Rattle.guppy_feature_demands.specs.IdViews.{id_view}
use Rattle.guppy_package_table.specs.Tables.{ids_of}
use Rattle.guppy_feature_nodes.specs.NodeNames.{node_of}
use Rattle.guppy_feature_nodes.proofs.node_names.node_names.Given as goal

abbrev pub invariant-loop-feature : goal.invariant-loop-feature
invariant-loop-feature l = l.names.keys ≡ map (node_of (ids_of l.graph.packages)) (map id_view (take l.feature-index l.features))
