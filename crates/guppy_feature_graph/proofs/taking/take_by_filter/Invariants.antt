use Rattle.std.proofs.Common.{◌≤◌, length, take, vec_capacity}
use Rattle.guppy_package_graph.specs.Visits.{SameSteps}
use Rattle.guppy_feature_graph.specs.Views.{feature_graph_of}
use Rattle.guppy_feature_graph.proofs.TakeFacts.{IsTaking}
use Rattle.guppy_feature_graph.proofs.taking.take_by_filter.Given as goal

abbrev pub invariant-loop-node : goal.invariant-loop-node
invariant-loop-node g l =
    let f = g.F.FeatureFilter in
    record {
      taking : IsTaking (f.steps l.fn.filter) (feature_graph_of l.graph) (f.state l.fn.filter) (take l.node-index l.node-items) (f.state l.filter) l.included l.starts.items;
      same : SameSteps (f.steps l.fn.filter) (f.steps l.filter);
      can : f.can_accept l.filter;
      room : length l.node-items ≤ vec_capacity l.starts;
      behind : length l.starts.items ≤ l.node-index;
    }
