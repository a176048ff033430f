use Rattle.std.proofs.Common.{◌≡◌, ◌∙◌, ◌↔◌, IsTrue, length, map, nat_lt, subst, sym}
use Rattle.numbered_graph.specs.Graphs.{GraphValue}
use Rattle.numbered_graph.specs.Links.{AreWithin}
use Rattle.numbered_graph.specs.Listings.{IsListing}
use Rattle.numbered_graph.specs.Paths.{IsReached}
use Rattle.numbered_graph.specs.Sets.{has}
use Rattle.numbered_graph.specs.declared.direction.Direction.TheVariants.{Forward}
use Rattle.guppy_feature_nodes.specs.EdgeViews.{edge_view}
use Rattle.guppy_feature_nodes.specs.GraphEdges.{edge_ends}
use Rattle.guppy_feature_nodes.specs.Orders.{default_starts, firm_edges, naming_edges}
use Rattle.guppy_feature_nodes.proofs.OrderFacts.{ends_within}
use Rattle.guppy_feature_nodes.proofs.orders.orders_of.Goals as goal

pub new-requires : goal.new-requires
new-requires c =
    let edges = map edge_view c.args.edges.now in
    subst (AreWithin c.len.result) (sym c.in_ok-ends.ensures) (subst (λ n. AreWithin n (edge_ends edges)) (sym c.len.ensures.count) (ends_within (length c.args.nodes.now) c.args.links.now edges c.requires))

pub returns : goal.returns
returns c =
    let nodes = c.args.nodes.now in
    let links = c.args.links.now in
    let edges = map edge_view c.args.edges.now in
    let set = c.in_ok-defaults.defaults in
    let graph : c.in_ok-graph.graph ≡ record { nodes = length nodes; links = edge_ends edges } = c.in_ok-graph.ensures.made ∙ (λ i. record { nodes = c.len.ensures.count i; links = c.in_ok-ends.ensures i }) in
    let firm = c.deref.ensures.value ∙ c.in_ok-firm.ensures in
    record {
      graph = graph;
      listed = subst (λ (g : GraphValue). IsListing g.links (has (firm_edges links edges)) (λ v. nat_lt v g.nodes) c.in_ok-listing.listing.items) graph
          (subst (λ fs. IsListing c.in_ok-graph.graph.links (has fs) (λ v. nat_lt v c.in_ok-graph.graph.nodes) c.in_ok-listing.listing.items) firm c.in_ok-listing.ensures.listing);
      defaults = λ v.
          subst (λ (g : GraphValue). IsTrue (has set v) ↔ IsReached Forward g.links (has (naming_edges edges)) (default_starts nodes) v) graph
          (subst (λ fs. IsTrue (has set v) ↔ IsReached Forward c.in_ok-graph.graph.links (has fs) (default_starts nodes) v) (c.deref-3.ensures.value ∙ c.in_ok-naming.ensures)
          (subst (λ ss. IsTrue (has set v) ↔ IsReached Forward c.in_ok-graph.graph.links (has c.deref-3.result.now) ss v) (c.deref-2.ensures.value ∙ c.in_ok-starts.ensures.starts) (c.in_ok-defaults.ensures.reached v)));
    }
