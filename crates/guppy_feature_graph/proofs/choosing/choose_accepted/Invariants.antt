use Rattle.std.proofs.Common.{length, true}
use denote.Param.Always.{always_mut}
use Rattle.numbered_graph.specs.ListedViews.{in_direction, listed_left}
use Rattle.numbered_graph.proofs.ChoiceFacts.{IsChoosing}
use Rattle.guppy_package_graph.specs.Directions.{direction_of}
use Rattle.guppy_feature_graph.specs.Filters.{AsksFeature}
use Rattle.guppy_feature_graph.specs.Sets.{listed}
use Rattle.guppy_feature_graph.proofs.choosing.choose_accepted.Given as goal

abbrev pub invariant-loop-node : goal.invariant-loop-node
invariant-loop-node g l = record {
  choosing : IsChoosing (AsksFeature g.F.FnMut l.set.graph) (in_direction (direction_of l.fn.direction) (listed l.set)) (length l.set.graph.nodes) l.fn.callback (listed_left l.nodes) l.callback true true l.kept l.kept;
  callable : always_mut g.F.FnMut l.callback;
}

abbrev pub decreases-loop-node : goal.decreases-loop-node
decreases-loop-node g l = length (listed_left l.nodes)
