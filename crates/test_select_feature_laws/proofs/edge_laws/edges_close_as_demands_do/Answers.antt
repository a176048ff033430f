use Rattle.std.proofs.Common.{◌≡◌, ℕ, true, []}
use Rattle.numbered_graph.specs.declared.direction.Direction.TheVariants.{Forward}
use Rattle.numbered_offers.specs.Least.{IsClosed}
use Rattle.guppy_feature_demands.specs.Demands.{demands_of, kept_demands}
use Rattle.guppy_feature_demands.specs.Nodes.{nodes_of}
use Rattle.guppy_feature_nodes.specs.Offering.{offers_of}
use Rattle.test_select_feature_laws.specs.EdgeSeams.{EdgesCloseAsDemandsDo}
use Rattle.test_select_feature_laws.proofs.AlongFacts.{along_lined}
use Rattle.test_select_feature_laws.proofs.EdgeFacts.{edges_closed}
use Rattle.test_select_feature_laws.proofs.FreeFacts.{along_firm}
use Rattle.test_select_feature_laws.proofs.StrongFacts.{strong_too}
use Rattle.test_select_feature_laws.proofs.WeakFacts.{along_weak}
use Rattle.test_select_feature_laws.proofs.edge_laws.edges_close_as_demands_do.Goals as goal

both_ways : EdgesCloseAsDemandsDo
both_ways table g accepts s built distinct follows =
    let holds : ℕ → Type 0 = λ v. s v ≡ true in
    let nodes = nodes_of g.rows.packages in
    let ds = kept_demands nodes (demands_of g.rows.packages g.rows.links) in
    let joined = built.edges.joined in
    let joins = built.edges.joins in
    let values = built.edges.values in (
      λ (closed : IsClosed Forward (offers_of Forward g) [] accepts holds). record {
        firm = along_firm g ds joined joins nodes values accepts holds closed;
        lined = along_lined table g ds joined joins nodes values accepts follows holds closed;
        weak = along_weak table g ds joined joins nodes values accepts follows holds closed (strong_too g.rows.packages g.rows.links distinct);
      },
      λ closed. edges_closed table g ds joined joins nodes values holds closed accepts follows,
    )

pub returns : goal.returns
returns c = record { seam = both_ways }
