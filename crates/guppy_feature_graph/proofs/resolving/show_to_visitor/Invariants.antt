use Rattle.std.proofs.Common.{◌≡◌, ◌+◌, ◌-◌, ◌≤◌, length, count_by}
use Rattle.guppy_package_graph.specs.Visits.{Chain, SameSteps}
use Rattle.guppy_feature_graph.specs.Resolves.{shown_to}
use Rattle.numbered_offers.specs.Edges.{is_weak}
use Rattle.guppy_feature_graph.proofs.ResolveFacts.{IsWalkOf}
use Rattle.guppy_feature_graph.proofs.resolving.show_to_visitor.Given as goal

abbrev pub invariant-loop-due : goal.invariant-loop-due
invariant-loop-due g l =
    let before = goal.FeatureLinkVisitor-dyn g l.fn.visitor.now in
    let after = goal.FeatureLinkVisitor-dyn g l.visitor.now in
    record {
      walk : IsWalkOf l.query l.walk;
      chain : Chain (before.steps l.fn.visitor.now.1) (before.state l.fn.visitor.now.1) (shown_to l.query l.walk.run) (after.state l.visitor.now.1);
      same : SameSteps (before.steps l.fn.visitor.now.1) (after.steps l.visitor.now.1);
      looks : l.looks ≡ l.fn.looks + l.walk.looked;
      bound : l.walk.looked ≤ length l.query.graph.nodes;
    }

abbrev pub decreases-loop-due : goal.decreases-loop-due
decreases-loop-due g l = (length l.walk.graph.edges + count_by is_weak l.walk.graph.edges) - l.walk.passed
