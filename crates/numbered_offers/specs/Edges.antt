-- Edges between numbered nodes, and what they offer. An edge is told by its place in the list of edges.
use Rattle.std.specs.Prelude.{ℕ, ◌<◌, Bool, true, false, ◌&&◌, ◌==◌, List, All, map, nat_lt, length, slice_index_or}
use Rattle.numbered_graph.specs.declared.link.Link.{Link}
use Rattle.numbered_graph.specs.declared.direction.Direction.{Direction}
use Rattle.numbered_graph.specs.declared.direction.Direction.TheVariants.{Forward, Reverse}
use Rattle.numbered_offers.specs.declared.edge.Edge.{Edge}
use Rattle.numbered_offers.specs.declared.edge.EdgeSort.{EdgeSort}
use Rattle.numbered_offers.specs.declared.edge.EdgeSort.TheVariants.{Unconditional, Conditional, Weak}
use Rattle.numbered_offers.specs.declared.offer.Offer.{Offer}
use Rattle.numbered_offers.specs.declared.offer.OfferKind.{OfferKind}
use Rattle.numbered_offers.specs.declared.offer.OfferKind.TheVariants.{Unsplit, Required, Optional}

-- the edge with a number; past the end one that is never crossed
abbrev pub edge_at : List Edge → ℕ → Edge
edge_at edges e = slice_index_or edges e (record { from = 0; to = 0; sort = Weak 0 false false })

-- the link between the ends of an edge
abbrev pub link_of : Edge → Link
link_of x = record { from = x.from; to = x.to }

abbrev pub edge_links : List Edge → List Link
edge_links edges = map link_of edges

-- the node for which the optional half of a weak edge waits
abbrev pub dep_of : EdgeSort → ℕ
dep_of Unconditional = 0
dep_of Conditional = 0
dep_of (Weak dep required optional) = dep

abbrev pub dep_at : List Edge → ℕ → ℕ
dep_at edges e = dep_of (edge_at edges e).sort

-- the link from that node to the end of the edge
abbrev pub dep_link_of : Edge → Link
dep_link_of x = record { from = dep_of x.sort; to = x.to }

-- the ends of each edge, and the node for which it waits, are among the nodes
abbrev pub AreEdgesWithin : ℕ → List Edge → Type 0
AreEdgesWithin nodes edges = All (λ x. (x.from < nodes) × (x.to < nodes) × (dep_of x.sort < nodes)) edges

-- the edge is crossed always
abbrev pub is_free : EdgeSort → Bool
is_free Unconditional = true
is_free Conditional = false
is_free (Weak dep required optional) = false

abbrev pub is_free_at : List Edge → ℕ → Bool
is_free_at edges e = is_free (edge_at edges e).sort

-- the edge is offered in halves
abbrev pub is_weak_sort : EdgeSort → Bool
is_weak_sort Unconditional = false
is_weak_sort Conditional = false
is_weak_sort (Weak dep required optional) = true

abbrev pub is_weak : Edge → Bool
is_weak x = is_weak_sort x.sort

-- a conditional edge has one offer, a weak one has the halves that are there (from guppy's feature graph)
abbrev pub has_offer : EdgeSort → OfferKind → Bool
has_offer Unconditional kind = false
has_offer Conditional Unsplit = true
has_offer Conditional Required = false
has_offer Conditional Optional = false
has_offer (Weak dep required optional) Unsplit = false
has_offer (Weak dep required optional) Required = required
has_offer (Weak dep required optional) Optional = optional

-- the edge offers this: one whole, or the halves that are there (from guppy's feature graph)
abbrev pub is_offer : List Edge → Offer → Bool
is_offer edges o = nat_lt o.edge (length edges) && has_offer (edge_at edges o.edge).sort o.kind

-- forward, an optional half waits for one node more (from guppy's feature graph)
abbrev pub waits : Direction → OfferKind → Bool
waits Forward Unsplit = false
waits Forward Required = false
waits Forward Optional = true
waits Reverse kind = false

abbrev pub kind_number : OfferKind → ℕ
kind_number Unsplit = 0
kind_number Required = 1
kind_number Optional = 2

-- the same part of the same edge
abbrev pub same_offer : Offer → Offer → Bool
same_offer p o = (p.edge == o.edge) && (kind_number p.kind == kind_number o.kind)

abbrev pub required_half : ℕ → Offer
required_half e = record { edge = e; kind = Required }

abbrev pub optional_half : ℕ → Offer
optional_half e = record { edge = e; kind = Optional }
