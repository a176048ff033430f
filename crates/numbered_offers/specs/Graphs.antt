-- A graph of offers, and the links over which it is walked: those of its edges, and after them one for each optional
-- half, from the node for which the half waits.
use Rattle.std.specs.Prelude.{◌≡◌, ℕ, Bool, List, ◌++◌, map, filter, length}
use Rattle.numbered_graph.specs.declared.link.Link.{Link}
use Rattle.numbered_graph.specs.Listings.{numbers_below}
use Rattle.numbered_offers.specs.declared.edge.Edge.{Edge}
use Rattle.numbered_offers.specs.declared.offer.OfferKind.TheVariants.{Optional}
use Rattle.numbered_offers.specs.Edges.{AreEdgesWithin, edge_at, edge_links, dep_link_of, has_offer}

pub record OfferGraphValue : Type 0 where
  pub nodes : ℕ
  pub edges : List Edge

-- the edge has an optional half
abbrev pub has_optional_half : List Edge → ℕ → Bool
has_optional_half edges e = has_offer (edge_at edges e).sort Optional

-- the edges with an optional half, by their numbers
abbrev pub halves_of : List Edge → List ℕ
halves_of edges = filter (has_optional_half edges) (numbers_below (length edges))

abbrev pub dep_links : List Edge → List ℕ → List Link
dep_links edges halves = map (λ e. dep_link_of (edge_at edges e)) halves

abbrev pub all_links : List Edge → List Link
all_links edges = edge_links edges ++ dep_links edges (halves_of edges)

-- what a graph of offers keeps beside its edges
pub record IsKept (edges : List Edge) (halves : List ℕ) (nodes : ℕ) (links : List Link) : Type 0 where
  pub within : AreEdgesWithin nodes edges
  pub halves_are : halves ≡ halves_of edges
  pub links_are : links ≡ all_links edges
