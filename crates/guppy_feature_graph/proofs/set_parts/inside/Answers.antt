use Rattle.std.proofs.Common.{◌≡◌, ◌∙◌, ◌<◌, List, Bool, All, ap, filter, length, subst}
use Rattle.std.proofs.lemmas.List.{length-map}
use Rattle.numbered_graph.specs.Graphs.{GraphValue}
use Rattle.numbered_graph.specs.Listings.{numbers_below}
use Rattle.numbered_graph.specs.Roots.{is_inside}
use Rattle.guppy_feature_nodes.specs.GraphEdges.{edge_ends, ends_of}
use Rattle.guppy_feature_nodes.specs.Graphs.{FeatureGraphValue}
use Rattle.guppy_feature_graph.proofs.set_parts.inside.Goals as goal

pub returns-clause-inside : goal.returns-clause-inside
returns-clause-inside c =
    let g = c.args.set.now.graph in
    let set = c.args.set.now.included in
    let built = c.built.ensures ∙ c.graph.ensures.graph in
    let graph : c.edge_graph-graph.result.now ≡ record { nodes = length g.nodes; links = edge_ends g.edges } = c.edge_graph-graph.ensures.graph ∙ ap (λ (x : FeatureGraphValue). record { nodes = length x.nodes; links = edge_ends x.edges }) built in
    let links = edge_ends g.edges in
    c.in_ok-numbers.ensures.inside
    ∙ ap (λ (x : GraphValue). filter (is_inside x.links c.included.result.now) (numbers_below (length x.links))) graph
    ∙ ap (λ (s : List Bool). filter (is_inside links s) (numbers_below (length links))) c.included.ensures.value
    ∙ ap (λ n. filter (is_inside links set) (numbers_below n)) (length-map g.edges ends_of)

pub returns-clause-within : goal.returns-clause-within
returns-clause-within c =
    let g = c.args.set.now.graph in
    let built = c.built.ensures ∙ c.graph.ensures.graph in
    let graph : c.edge_graph-graph.result.now ≡ record { nodes = length g.nodes; links = edge_ends g.edges } = c.edge_graph-graph.ensures.graph ∙ ap (λ (x : FeatureGraphValue). record { nodes = length x.nodes; links = edge_ends x.edges }) built in
    subst (λ n. All (λ j. j < n) c.in_ok-numbers.numbers.items) (length-map g.edges ends_of) (subst (λ (x : GraphValue). All (λ j. j < length x.links) c.in_ok-numbers.numbers.items) graph c.in_ok-numbers.ensures.within)
