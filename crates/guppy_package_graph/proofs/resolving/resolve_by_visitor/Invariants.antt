use Rattle.std.proofs.Common.{◌-◌, length}
use Rattle.guppy_package_graph.specs.Resolves.{shown_to}
use Rattle.guppy_package_graph.specs.Visits.{Chain, SameSteps}
use Rattle.guppy_package_graph.proofs.ResolveFacts.{IsWalkOf}
use Rattle.guppy_package_graph.proofs.resolving.resolve_by_visitor.Given as goal

abbrev pub invariant-loop-number : goal.invariant-loop-number
invariant-loop-number g l =
    let before = goal.PackageLinkVisitor-dyn g l.fn.visitor.now in
    let after = goal.PackageLinkVisitor-dyn g l.visitor.now in
    record {
      walk : IsWalkOf l.query l.walk;
      chain : Chain (before.steps l.fn.visitor.now.1) (before.state l.fn.visitor.now.1) (shown_to l.query l.walk.shown) (after.state l.visitor.now.1);
      same : SameSteps (before.steps l.fn.visitor.now.1) (after.steps l.visitor.now.1);
    }

abbrev pub decreases-loop-number : goal.decreases-loop-number
decreases-loop-number g l = length l.walk.graph.links - length l.walk.shown
