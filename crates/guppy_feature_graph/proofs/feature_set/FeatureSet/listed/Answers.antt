use Rattle.std.proofs.Common.{◌≡◌, ◌∙◌, ◌<◌, ℕ, All, filter, length, nat_lt, subst, sym, ap}
use Rattle.numbered_graph.specs.Listings.{IsListing}
use Rattle.numbered_graph.specs.ListedViews.{listed_left}
use Rattle.numbered_graph.specs.Sets.{has}
use Rattle.guppy_feature_nodes.specs.GraphEdges.{edge_ends}
use Rattle.guppy_feature_nodes.specs.Graphs.{FeatureGraphValue, IsEdgeListing}
use Rattle.guppy_feature_nodes.specs.Orders.{firm_edges}
use Rattle.guppy_package_graph.proofs.PlaceFacts.{listed_within, members_alone, turned}
use Rattle.guppy_feature_graph.specs.Sets.{IsInOrder, SetValue}
use Rattle.guppy_feature_graph.specs.Views.{feature_graph_of}
use Rattle.guppy_feature_graph.proofs.feature_set.FeatureSet.listed.Goals as goal

pub returns-clause-within : goal.returns-clause-within
returns-clause-within c =
    let g = feature_graph_of c.self.inside.graph in
    let set = c.self.inside.included in
    let xs = c.listing.result.now in
    let within : ℕ → Type 0 = λ v. v < length g.nodes in
    let of_graph : IsEdgeListing g.rows.links g.nodes g.edges xs = subst (λ (t : FeatureGraphValue). IsEdgeListing t.rows.links t.nodes t.edges xs) c.built-built.ensures c.listing.ensures.listing in
    subst (λ (s : SetValue). All (λ v. v < length s.graph.nodes) (listed_left c.new.result)) c.self.view_is (subst (All within) (sym c.new.ensures.listed)
    (turned c.direction_of.result within (filter (has set) xs) (listed_within (edge_ends g.edges) (has (firm_edges g.rows.links g.edges)) (has set) (length g.nodes) xs of_graph)))

pub returns-clause-listing : goal.returns-clause-listing
returns-clause-listing c =
    let g = feature_graph_of c.self.inside.graph in
    let set = c.self.inside.included in
    let xs = c.listing.result.now in
    let links = edge_ends g.edges in
    let firm = has (firm_edges g.rows.links g.edges) in
    let of_graph : IsEdgeListing g.rows.links g.nodes g.edges xs = subst (λ (t : FeatureGraphValue). IsEdgeListing t.rows.links t.nodes t.edges xs) c.built-built.ensures c.listing.ensures.listing in
    let kept = members_alone links firm set (length g.nodes) (filter (has set) xs) c.self.invariant (c.new.ensures.listing links firm (λ v. nat_lt v (length g.nodes)) of_graph) in
    let same : xs ≡ g.listing = c.listing.ensures.value ∙ ap (λ (t : FeatureGraphValue). t.listing) c.built-built.ensures in
    subst IsInOrder c.self.view_is (subst (λ ys. IsListing links firm (has set) (filter (has set) ys)) same kept)
