-- The edges of a graph by their numbers, as they are and as they are offered forward.
use Rattle.std.proofs.Common.{◌≡◌, ℕ, ◌<◌, length, get_or, false, List, [], Contains, map, sym, subst, ap, ◌∙◌}
use Rattle.std.proofs.lemmas.List.{get_or-map, length-map}
use Rattle.numbered_graph.specs.declared.direction.Direction.TheVariants.{Forward}
use Rattle.numbered_graph.specs.Links.{near_at, far_at}
use Rattle.numbered_graph.specs.declared.link.Link as numbered
use Rattle.numbered_offers.specs.declared.edge.Edge.{Edge}
use Rattle.numbered_offers.specs.declared.edge.EdgeSort.TheVariants.{Weak}
use Rattle.numbered_offers.specs.Edges as offers
use Rattle.guppy_feature_nodes.specs.Joining.{JoinedValue}
use Rattle.guppy_feature_nodes.specs.GraphEdges.{EdgeValue, ToBase, edge_at, edge_value}
use Rattle.guppy_feature_nodes.specs.Graphs.{FeatureGraphValue}
use Rattle.guppy_feature_nodes.specs.Offering.{offer_edge, offers_of}
use Rattle.workspace_record.specs.Features.{FeatureValue}

module _ (g : FeatureGraphValue) where
  -- an edge as it is offered forward
  abbrev pub offered_as : EdgeValue → Edge
  offered_as = offer_edge Forward (length g.nodes) g.rows.links

  abbrev pub forward : List Edge
  forward = offers_of Forward g

  pub as_many : length forward ≡ length g.edges
  as_many = length-map g.edges offered_as

  -- what is offered under a number
  pub offered_at : (e : ℕ) → e < length g.edges → offers.edge_at forward e ≡ offered_as (edge_at g.edges e)
  offered_at e lt = get_or-map offered_as g.edges e (record { from = 0; to = 0; form = ToBase; lines = [] }) (record { from = 0; to = 0; sort = Weak 0 false false }) lt

  link_at : (e : ℕ) → e < length g.edges → get_or (offers.edge_links forward) e (record { from = 0; to = 0 }) ≡ offers.link_of (offered_as (edge_at g.edges e))
  link_at e lt = get_or-map offers.link_of forward e (record { from = 0; to = 0; sort = Weak 0 false false }) (record { from = 0; to = 0 }) (subst (λ n. e < n) (sym as_many) lt) ∙ ap offers.link_of (offered_at e lt)

  -- the ends of what is offered are those of the edge
  pub near_is : (e : ℕ) → e < length g.edges → near_at Forward (offers.edge_links forward) e ≡ (edge_at g.edges e).from
  near_is e lt = ap (λ (l : numbered.Link). l.from) (link_at e lt)

  pub far_is : (e : ℕ) → e < length g.edges → far_at Forward (offers.edge_links forward) e ≡ (edge_at g.edges e).to
  far_is e lt = ap (λ (l : numbered.Link). l.to) (link_at e lt)

  -- an edge that is joined has a number
  pub number_of_edge : (nodes : List FeatureValue) (joined : List JoinedValue) → g.edges ≡ map (edge_value nodes) joined → (e : JoinedValue) → Contains joined e → (k : ℕ) × (k < length g.edges) × (edge_at g.edges k ≡ edge_value nodes e)
  number_of_edge nodes joined values e (k, lt, is) =
      let none : EdgeValue = record { from = 0; to = 0; form = ToBase; lines = [] } in
      (k, subst (λ n. k < n) (sym (ap length values ∙ length-map joined (edge_value nodes))) lt, ap (λ es. get_or es k none) values ∙ get_or-map (edge_value nodes) joined k e none lt ∙ ap (edge_value nodes) is)
