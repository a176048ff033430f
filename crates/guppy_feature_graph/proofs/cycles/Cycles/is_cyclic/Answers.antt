use Rattle.std.proofs.Common.{◌<◌, subst, sym}
use Rattle.numbered_graph.specs.declared.direction.Direction.TheVariants.{Reverse}
use Rattle.guppy_feature_demands.specs.IdViews.{id_view}
use Rattle.guppy_feature_nodes.specs.GraphEdges.{edge_ends}
use Rattle.guppy_feature_graph.specs.CycleValues.{CyclesValue, SaysCyclic}
use Rattle.guppy_feature_graph.specs.Views.{feature_graph_of}
use Rattle.guppy_feature_graph.proofs.cycles.Cycles.is_cyclic.Goals as goal

pub is_cyclic-requires : goal.is_cyclic-requires
is_cyclic-requires c =
    let counted = sym c.self.invariant.counted in
    (subst (λ n. c.in-Ok.a < n) counted c.in-Ok.ensures.0.1, subst (λ n. c.in-Ok.b < n) counted c.in-Ok.ensures.1.1)

pub returns-in-Ok : goal.returns-in-Ok
returns-in-Ok c =
    record {
      answer = subst (λ (v : CyclesValue). SaysCyclic v.graph (id_view c.args.feature_a) (id_view c.args.feature_b) c.is_cyclic.result) c.self.view_is (record {
        from = c.in-Ok.a;
        to = c.in-Ok.b;
        is_from = c.in-Ok.ensures.0;
        is_to = c.in-Ok.ensures.1;
        says = c.is_cyclic.ensures Reverse (edge_ends (feature_graph_of c.self.inside.graph).edges) c.self.invariant.cyclic;
      });
    }
