use Rattle.std.proofs.Common.{◌+◌, ◌-◌, length, count_by}
use denote.Param.Always.{always_mut}
use Rattle.guppy_package_graph.specs.Visits.{Chain}
use Rattle.guppy_feature_graph.specs.Closures.{AsksClosure}
use Rattle.numbered_offers.specs.Edges.{is_weak}
use Rattle.guppy_feature_graph.proofs.ResolveFacts.{IsWalkOf}
use Rattle.guppy_feature_graph.proofs.resolving.show_to_closure.Given as goal

abbrev pub invariant-loop-due : goal.invariant-loop-due
invariant-loop-due g l = record {
  walk : IsWalkOf l.query l.walk;
  chain : Chain (AsksClosure g.F.FnMut l.query) l.fn.accepts l.walk.run l.accepts;
  callable : always_mut g.F.FnMut l.accepts;
}

abbrev pub decreases-loop-due : goal.decreases-loop-due
decreases-loop-due g l = (length l.walk.graph.edges + count_by is_weak l.walk.graph.edges) - l.walk.passed
