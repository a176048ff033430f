use Rattle.std.proofs.Common.{◌≡◌, ◌∙◌, ◌<◌, ℕ, Vec, Global, Contains, ap, flat_map, get_or, length, map, subst, sym}
use Rattle.std.proofs.lemmas.List.Elements.{Contains-get_or}
use Rattle.list_facts.proofs.Membership.{Contains-flat_map}
use Rattle.list_facts.proofs.Quantifiers.{All-from_Contains}
use Rattle.numbered_graph.specs.declared.direction.Direction.TheVariants.{Reverse}
use Rattle.numbered_graph.specs.CycleNumbers.{NumberedCyclesValue}
use Rattle.numbered_graph.specs.Cycles.{AreCycles}
use Rattle.numbered_graph.specs.Graphs.{GraphValue}
use Rattle.guppy_feature_nodes.specs.GraphEdges.{edge_ends}
use Rattle.guppy_feature_nodes.specs.Graphs.{FeatureGraphValue}
use Rattle.guppy_feature_graph.specs.Views.{feature_graph_of}
use Rattle.guppy_feature_graph.specs.CycleValues.{AreNumbered}
use Rattle.guppy_feature_graph.proofs.feature_graph.FeatureGraph.cycles.Goals as goal

pub invariant_of-result : goal.invariant_of-result
invariant_of-result c =
    let g = feature_graph_of c.args.self.now in
    let lists = map (λ (x : Vec ℕ Global). x.items) c.in_ok-components.components.items in
    let graph : c.edge_graph.result.now ≡ record { nodes = length g.nodes; links = edge_ends g.edges } = c.edge_graph.ensures.graph ∙ ap (λ (x : FeatureGraphValue). record { nodes = length x.nodes; links = edge_ends x.edges }) c.built.ensures in
    let small : (v : ℕ) → Contains (flat_map (λ x. x) lists) v → v < length g.nodes = subst (λ (x : GraphValue). (v : ℕ) → Contains (flat_map (λ x. x) lists) v → v < x.nodes) graph c.in_ok-components.ensures.within in
    let numbered : AreNumbered g (record { nodes = c.feature_count.result; cycles = lists }) = record {
      cyclic = subst (λ (x : GraphValue). AreCycles Reverse x.links lists) graph c.in_ok-components.ensures.cycles;
      within = λ k e lt. All-from_Contains (λ v. v < length g.nodes) (get_or lists k e) (λ v inside. small v (Contains-flat_map (λ x. x) lists (get_or lists k e) v (Contains-get_or lists k e lt) inside));
      counted = c.feature_count.ensures.count;
    } in
    subst (λ (v : NumberedCyclesValue). AreNumbered g v) (sym c.in_ok-cycles.ensures) numbered
