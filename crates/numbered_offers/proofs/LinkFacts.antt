-- The links over which a graph of offers is walked.
use Rattle.std.proofs.Common.{◌≡◌, ℕ, ◌+◌, ◌-◌, ◌<◌, ◌≤◌, List, length, get_or, All, sym, subst, ap, ◌∙◌, arith, true, ◌&&◌, nat_lt, true≢false}
use Rattle.std.proofs.lemmas.Bool.Decides.{nat_tests}
use Rattle.list_facts.proofs.Membership.{Contains-filter_cases}
use Rattle.numbered_graph.specs.Listings.{numbers_below}
use Rattle.numbered_offers.specs.declared.offer.OfferKind.{OfferKind}
use Rattle.numbered_offers.specs.declared.offer.OfferKind.TheVariants.{Optional}
use Rattle.std.proofs.lemmas.List.{length-map, length-append, get_or_append_left, get_or-append-add, get_or-map}
use Rattle.std.proofs.lemmas.List.Elements.{All-append, All-map, Contains-get_or}
use Rattle.numbered_graph.specs.declared.link.Link.{Link}
use Rattle.numbered_graph.specs.declared.direction.Direction.{Direction}
use Rattle.numbered_graph.specs.declared.direction.Direction.TheVariants.{Forward, Reverse}
use Rattle.numbered_graph.specs.Links.{link_at, near_of, far_of, near_at, far_at, AreWithin}
use Rattle.numbered_graph.proofs.MemberFacts.{filter_small}
use Rattle.numbered_offers.specs.declared.edge.Edge.{Edge}
use Rattle.numbered_offers.specs.Edges.{edge_at, edge_links, link_of, dep_at, dep_link_of, is_offer, optional_half, waits, AreEdgesWithin}
use Rattle.numbered_offers.specs.Graphs.{has_optional_half, halves_of, dep_links, all_links}
use Rattle.numbered_offers.specs.Keeping.{half_at}

lt_is : (a b : ℕ) → a < b → nat_lt a b ≡ true
lt_is a b h = grind (arith, nat_tests, h)

pub halves_small : (edges : List Edge) → All (λ e. e < length edges) (halves_of edges)
halves_small edges = filter_small (has_optional_half edges) (length edges)

pub links_within : (nodes : ℕ) (edges : List Edge) → AreEdgesWithin nodes edges → AreWithin nodes (all_links edges)
links_within nodes edges h =
    let P = λ (l : Link). (l.from < nodes) × (l.to < nodes) in
    All-append P (edge_links edges) (dep_links edges (halves_of edges))
    (All-map P link_of edges (λ k d lt. let x = h k d lt in (x.0, x.1)))
    (All-map P (λ e. dep_link_of (edge_at edges e)) (halves_of edges) (λ k d lt. let x = h (get_or (halves_of edges) k d) _ (halves_small edges k d lt) in (x.2, x.1)))

pub length-all_links : (edges : List Edge) → length (all_links edges) ≡ length edges + length (halves_of edges)
length-all_links edges =
    let sum = length-append (edge_links edges) (dep_links edges (halves_of edges)) in
    let left = length-map edges link_of in
    let right = length-map (halves_of edges) (λ e. dep_link_of (edge_at edges e)) in
    omega arith

module _ (edges : List Edge) where
  -- the link of an edge
  edge_link_at : (e : ℕ) → e < length edges → link_at (all_links edges) e ≡ link_at (edge_links edges) e
  edge_link_at e lt = get_or_append_left (edge_links edges) (dep_links edges (halves_of edges)) (record { from = 0; to = 0 }) e (subst (λ n. e < n) (sym (length-map edges link_of)) lt)

  pub near-edge : (d : Direction) (e : ℕ) → e < length edges → near_at d (all_links edges) e ≡ near_at d (edge_links edges) e
  near-edge d e lt = ap (near_of d) (edge_link_at e lt)

  pub far-edge : (d : Direction) (e : ℕ) → e < length edges → far_at d (all_links edges) e ≡ far_at d (edge_links edges) e
  far-edge d e lt = ap (far_of d) (edge_link_at e lt)

  module _ (j : ℕ) (behind : length edges ≤ j) (lt : j < length (all_links edges)) where
    pub place_lt : j - length edges < length (halves_of edges)
    place_lt = let size = length-all_links edges in omega arith

    pub half_small : half_at edges j < length edges
    half_small = halves_small edges (j - length edges) 0 place_lt

    -- the link of an optional half
    half_link_at : link_at (all_links edges) j ≡ dep_link_of (edge_at edges (half_at edges j))
    half_link_at =
        let k = j - length edges in
        let size = length-map edges link_of in
        let at : j ≡ length (edge_links edges) + k = omega arith in
        let none : Link = record { from = 0; to = 0 } in
        ap (λ i. get_or (all_links edges) i none) at
        ∙ get_or-append-add (edge_links edges) (dep_links edges (halves_of edges)) k none
        ∙ get_or-map (λ e. dep_link_of (edge_at edges e)) (halves_of edges) k 0 none place_lt

    edge_link : link_at (edge_links edges) (half_at edges j) ≡ link_of (edge_at edges (half_at edges j))
    edge_link = get_or-map link_of edges (half_at edges j) _ (record { from = 0; to = 0 }) half_small

    pub near-half : near_at Forward (all_links edges) j ≡ dep_at edges (half_at edges j)
    near-half = ap (λ (l : Link). l.from) half_link_at

    pub far-half : far_at Forward (all_links edges) j ≡ far_at Forward (edge_links edges) (half_at edges j)
    far-half = ap (λ (l : Link). l.to) half_link_at ∙ sym (ap (λ (l : Link). l.to) edge_link)

    -- the half is offered
    pub half_is_offer : is_offer edges (optional_half (half_at edges j)) ≡ true
    half_is_offer =
        let there = (Contains-filter_cases (has_optional_half edges) (numbers_below (length edges)) (half_at edges j) (Contains-get_or (halves_of edges) (j - length edges) 0 place_lt)).1 in
        ap (λ b. b && has_optional_half edges (half_at edges j)) (lt_is (half_at edges j) (length edges) half_small) ∙ there

-- in a direction in which something waits
pub near_half_in : (d : Direction) (edges : List Edge) (j : ℕ) → length edges ≤ j → j < length (all_links edges) → waits d Optional ≡ true → near_at d (all_links edges) j ≡ dep_at edges (half_at edges j)
near_half_in Forward edges j behind lt w = near-half edges j behind lt
near_half_in Reverse edges j behind lt w = absurd (true≢false (sym w))

pub far_half_in : (d : Direction) (edges : List Edge) (j : ℕ) → length edges ≤ j → j < length (all_links edges) → (k : OfferKind) → waits d k ≡ true → far_at d (all_links edges) j ≡ far_at d (edge_links edges) (half_at edges j)
far_half_in Forward edges j behind lt k w = far-half edges j behind lt
far_half_in Reverse edges j behind lt k w = absurd (true≢false (sym w))
