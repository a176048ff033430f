use Rattle.std.proofs.Common.{◌≡◌, ◌∙◌, ◌↔◌, ◌<◌, Contains, IsTrue, IsPermutation, All, ap, length, subst, sym}
use Rattle.std.proofs.lemmas.List.Sorted.{All-permutation, Contains-permutation, IsPermutation-sym}
use Rattle.numbered_graph.specs.Graphs.{GraphValue}
use Rattle.numbered_graph.specs.Roots.{IsRoot}
use Rattle.numbered_graph.specs.Sets.{has}
use Rattle.guppy_feature_nodes.specs.GraphEdges.{edge_ends}
use Rattle.guppy_feature_nodes.specs.Graphs.{FeatureGraphValue}
use Rattle.guppy_feature_views.specs.RootOrder.{Ascend}
use Rattle.guppy_feature_graph.proofs.set_parts.roots.Goals as goal

pub in_root_order-requires-clause-within : goal.in_root_order-requires-clause-within
in_root_order-requires-clause-within c =
    let found = c.deref.result.now in
    let graph : c.edge_graph-graph.result.now ≡ record { nodes = length c.built-built.result.now.nodes; links = edge_ends c.built-built.result.now.edges } = c.edge_graph-graph.ensures.graph in
    subst (λ (x : GraphValue). All (λ v. v < x.nodes) found) graph (subst (λ vs. All (λ v. v < c.edge_graph-graph.result.now.nodes) vs) (sym c.deref.ensures.value) c.in_ok-found.ensures.within)

pub returns-clause-roots : goal.returns-clause-roots
returns-clause-roots c =
    let g = c.args.set.now.graph in
    let set = c.args.set.now.included in
    let built = c.built-built.ensures ∙ c.graph.ensures.graph in
    let graph : c.edge_graph-graph.result.now ≡ record { nodes = length g.nodes; links = edge_ends g.edges } = c.edge_graph-graph.ensures.graph ∙ ap (λ (x : FeatureGraphValue). record { nodes = length x.nodes; links = edge_ends x.edges }) built in
    let found = c.in_ok-found.found.items in
    let roots = c.in_ok-nodes.nodes.items in
    let moved = subst (λ vs. IsPermutation vs roots) c.deref.ensures.value c.in_ok-nodes.ensures.each in
    record {
      ascending = subst (λ (x : FeatureGraphValue). Ascend x roots) built c.in_ok-nodes.ensures.order;
      each = λ v.
          let is = subst (λ d. Contains found v ↔ (IsTrue (has set v) × IsRoot d (edge_ends g.edges) set v)) c.direction_of.ensures
          (subst (λ s. Contains found v ↔ (IsTrue (has s v) × IsRoot c.direction_of.result (edge_ends g.edges) s v)) c.included.ensures.value
          (subst (λ (x : GraphValue). Contains found v ↔ (IsTrue (has c.included.result.now v) × IsRoot c.direction_of.result x.links c.included.result.now v)) graph (c.in_ok-found.ensures.each v))) in
          (λ h. is.0 (Contains-permutation roots found v (IsPermutation-sym found roots moved) h), λ h. Contains-permutation found roots v moved (is.1 h));
    }

pub returns-clause-within : goal.returns-clause-within
returns-clause-within c =
    let g = c.args.set.now.graph in
    let built = c.built-built.ensures ∙ c.graph.ensures.graph in
    let graph : c.edge_graph-graph.result.now ≡ record { nodes = length g.nodes; links = edge_ends g.edges } = c.edge_graph-graph.ensures.graph ∙ ap (λ (x : FeatureGraphValue). record { nodes = length x.nodes; links = edge_ends x.edges }) built in
    let found = c.in_ok-found.found.items in
    let roots = c.in_ok-nodes.nodes.items in
    let moved = subst (λ vs. IsPermutation vs roots) c.deref.ensures.value c.in_ok-nodes.ensures.each in
    All-permutation (λ v. v < length g.nodes) found roots moved (subst (λ (x : GraphValue). All (λ v. v < x.nodes) found) graph c.in_ok-found.ensures.within)
