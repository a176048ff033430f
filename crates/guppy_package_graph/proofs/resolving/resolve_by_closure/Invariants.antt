use Rattle.std.proofs.Common.{◌-◌, length}
use denote.Param.Always.{always_mut}
use Rattle.guppy_package_graph.specs.Closures.{AsksClosure}
use Rattle.guppy_package_graph.specs.Visits.{Chain}
use Rattle.guppy_package_graph.proofs.ResolveFacts.{IsWalkOf}
use Rattle.guppy_package_graph.proofs.resolving.resolve_by_closure.Given as goal

abbrev pub invariant-loop-number : goal.invariant-loop-number
invariant-loop-number g l = record {
  walk : IsWalkOf l.query l.walk;
  chain : Chain (AsksClosure g.F.FnMut l.query) l.fn.accepts l.walk.shown l.accepts;
  callable : always_mut g.F.FnMut l.accepts;
}

abbrev pub decreases-loop-number : goal.decreases-loop-number
decreases-loop-number g l = length l.walk.graph.links - length l.walk.shown
