use Rattle.std.proofs.Common.{length, true}
use denote.Param.Always.{always_mut}
use Rattle.numbered_graph.specs.ListedViews.{in_direction, listed_left}
use Rattle.numbered_graph.proofs.ChoiceFacts.{IsChoosing}
use Rattle.guppy_package_graph.specs.Directions.{direction_of}
use Rattle.guppy_package_graph.specs.Filters.{AsksPackage}
use Rattle.guppy_package_graph.specs.SetValues.{listed}
use Rattle.guppy_package_graph.proofs.choosing.choose_accepted.Given as goal

abbrev pub invariant-loop-place : goal.invariant-loop-place
invariant-loop-place g l = record {
  choosing : IsChoosing (AsksPackage g.F.FnMut l.set.graph) (in_direction (direction_of l.fn.direction) (listed l.set)) (length l.set.graph.packages) l.fn.callback (listed_left l.places) l.callback true true l.kept l.kept;
  callable : always_mut g.F.FnMut l.callback;
}

abbrev pub decreases-loop-place : goal.decreases-loop-place
decreases-loop-place g l = length (listed_left l.places)
