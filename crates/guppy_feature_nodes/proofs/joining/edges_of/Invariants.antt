use Rattle.std.proofs.Common.{◌≡◌, ◌++◌, List, map}
use Rattle.guppy_feature_nodes.specs.GroupViews.{group_view}
use Rattle.guppy_feature_nodes.specs.Groups.{AreKept}
use Rattle.guppy_feature_nodes.specs.JoinedViews.{joined_view}
use Rattle.guppy_feature_nodes.specs.Joining.{JoinedValue}
use Rattle.guppy_feature_nodes.specs.KeyViews.{key_view}
use Rattle.guppy_feature_nodes.proofs.joining.edges_of.Given as goal

abbrev pub invariant-loop-group : goal.invariant-loop-group
invariant-loop-group l = (gs : List JoinedValue) × (gs ++ map group_view l.group-iterator ≡ map group_view l.initial.group-iterator) × AreKept (map key_view l.weights.keys) gs (map joined_view l.edges.items)
