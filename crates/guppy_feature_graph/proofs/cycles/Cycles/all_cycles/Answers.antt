use Rattle.std.proofs.Common.{ℕ, ◌<◌, List, All, Vec, Global, length, subst, sym}
use Rattle.guppy_feature_nodes.specs.Graphs.{FeatureGraphValue}
use Rattle.guppy_package_graph.proofs.PlaceFacts.{unmapped}
use Rattle.guppy_feature_graph.specs.Views.{feature_graph_of}
use Rattle.guppy_feature_graph.proofs.cycles.Cycles.all_cycles.Goals as goal

pub of-requires : goal.of-requires
of-requires c =
    let g = feature_graph_of c.self.inside.graph in
    let small = λ (x : List ℕ). All (λ v. v < length g.nodes) x in
    subst (λ (t : FeatureGraphValue). All (λ (x : Vec ℕ Global). All (λ v. v < length t.nodes) x.items) c.lists.result.now) (sym c.built.ensures)
    (unmapped small (λ x. x.items) c.lists.result.now (subst (All small) (sym c.lists.ensures) c.self.invariant.within))
