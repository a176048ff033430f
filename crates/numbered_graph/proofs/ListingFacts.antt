-- From ranks to listings.
use Rattle.std.proofs.Common.{◌≡◌, ◌≢◌, ℕ, ◌<◌, ◌≤◌, Bool, false, ◌&&◌, eqb, ltb, List, [], ◌∷◌, Result, Ok, Err, IfOk, length, get_or, map, filter, refl, sym, subst, ap, IsPermutation, All, arith}
use Rattle.std.specs.Ordering.{nat_cmp, ordering_then, is_lt}
use Rattle.std.proofs.lemmas.Bool.{ltb-true, lt-ltb, and_parts, and_from}
use Rattle.std.proofs.lemmas.Bool.Decides.{Decides-eqb, nat_tests}
use Rattle.std.proofs.lemmas.List.{get_or-map, length-map}
use Rattle.std.proofs.lemmas.List.Elements.{All-contains}
use Rattle.std.proofs.lemmas.List.Sorted.{All-permutation, Contains-permutation}
use Rattle.std.proofs.lemmas.Map.Keys.{IsDistinct-IsPermutation}
use Rattle.std.proofs.lemmas.Map.Made.{AllPairs-from_IsDistinct, IsDistinct-from_AllPairs}
use Rattle.list_facts.proofs.Membership.{Contains-filter, Contains-filter_cases}
use Rattle.numbered_graph.specs.declared.link.Link.{Link}
use Rattle.numbered_graph.specs.declared.listings.Place.{Place}
use Rattle.numbered_graph.specs.Paths.{any_link, Reaches, AreMutual}
use Rattle.numbered_graph.specs.Ranks.{AreRanks}
use Rattle.numbered_graph.specs.Places.{place_of}
use Rattle.numbered_graph.specs.Listings.{numbers_below, IsForward, IsTogether, IsListing, IsInOrder}
use Rattle.numbered_graph.proofs.PathFacts.{Reaches-weaker}
use Rattle.numbered_graph.proofs.Numbers.{numbers-small, numbers-all, numbers-apart}
use Rattle.numbered_graph.proofs.RankFacts.{level, mutual_at}
use Rattle.numbered_graph.proofs.Kept.{AllPairs-filter, triples_filter}

-- what follows of a value from two facts of it
pub IfOk-both : {T E : Type 0} {P Q R : T → Type 0} (r : Result T E) → IfOk r P → IfOk r Q → ((x : T) → P x → Q x → R x) → IfOk r R
IfOk-both (Ok x) p q from = from x p q
IfOk-both (Err e) p q from = tt

-- what a comparison by three numbers says where the later one is not below the earlier one
pub lex : (a b c d e f : ℕ) → is_lt (ordering_then (nat_cmp a b) (ordering_then (nat_cmp c d) (nat_cmp e f))) ≡ false → (b ≤ a) × (b ≡ a → d ≤ c)
lex a b c d e f h = grind (arith, nat_tests, h)

pub nodes-places : (ranks firm_ranks : List ℕ) (vs : List ℕ) → map (λ (p : Place). p.node) (map (place_of ranks firm_ranks) vs) ≡ vs
nodes-places ranks firm_ranks [] = refl
nodes-places ranks firm_ranks (v ∷ vs) = ap (λ ws. v ∷ ws) (nodes-places ranks firm_ranks vs)

abbrev no_place : Place
no_place = record { rank = 0; firm_rank = 0; node = 0 }

-- sorted places give nodes in order
pub nodes_in_order : (ranks firm_ranks : List ℕ) (ps : List Place) → ((i j : ℕ) → i < j → j < length ps → ((get_or ps i no_place).rank ≤ (get_or ps j no_place).rank) × ((get_or ps i no_place).rank ≡ (get_or ps j no_place).rank → (get_or ps i no_place).firm_rank ≤ (get_or ps j no_place).firm_rank)) → All (λ p. p ≡ place_of ranks firm_ranks p.node) ps → IsInOrder ranks firm_ranks (map (λ (p : Place). p.node) ps)
nodes_in_order ranks firm_ranks ps sorted placed i j d lt small =
    let size = length-map ps (λ (p : Place). p.node) in
    let small_j : j < length ps = omega arith in
    let small_i : i < length ps = omega arith in
    let p = get_or ps i no_place in
    let q = get_or ps j no_place in
    let at_p = placed i no_place small_i in
    let at_q = placed j no_place small_j in
    let rank_p = ap (λ (x : Place). x.rank) at_p in
    let rank_q = ap (λ (x : Place). x.rank) at_q in
    let firm_p = ap (λ (x : Place). x.firm_rank) at_p in
    let firm_q = ap (λ (x : Place). x.firm_rank) at_q in
    let rises = sorted i j lt small_j in
    let up : get_or ranks p.node 0 ≤ get_or ranks q.node 0 = let r = rises.0 in omega arith in
    let ties : get_or ranks p.node 0 ≡ get_or ranks q.node 0 → get_or firm_ranks p.node 0 ≤ get_or firm_ranks q.node 0 = λ e. let r = rises.1 (omega arith) in omega arith in
    subst (λ u. (get_or ranks u 0 ≤ get_or ranks (get_or (map (λ (x : Place). x.node) ps) j d) 0) × (get_or ranks u 0 ≡ get_or ranks (get_or (map (λ (x : Place). x.node) ps) j d) 0 → get_or firm_ranks u 0 ≤ get_or firm_ranks (get_or (map (λ (x : Place). x.node) ps) j d) 0)) (sym (get_or-map (λ (x : Place). x.node) ps i no_place d small_i)) (subst (λ w. (get_or ranks p.node 0 ≤ get_or ranks w 0) × (get_or ranks p.node 0 ≡ get_or ranks w 0 → get_or firm_ranks p.node 0 ≤ get_or firm_ranks w 0)) (sym (get_or-map (λ (x : Place). x.node) ps j no_place d small_j)) (up, ties))

module _ {links : List Link} {firm : ℕ → Bool} {nodes : ℕ} {ranks firm_ranks xs : List ℕ} (all : AreRanks links any_link nodes ranks) (by_firm : AreRanks links firm nodes firm_ranks) (perm : IsPermutation (numbers_below nodes) xs) (order : IsInOrder ranks firm_ranks xs) where
  small : All (λ v. v < nodes) xs
  small = All-permutation (λ v. v < nodes) (numbers_below nodes) xs perm (numbers-small nodes)

  forward : IsForward links any_link xs
  forward i j d lt within back =
      let at_i = small i d (omega arith) in
      let at_j = small j d within in
      let up = (order i j d lt within).0 in
      let down = all.rise (get_or xs j d) (get_or xs i d) at_j at_i back in
      all.same (get_or xs i d) (get_or xs j d) at_i at_j (omega arith)

  firm_forward : IsForward links firm xs
  firm_forward i j d lt within back =
      let at_i = small i d (omega arith) in
      let at_j = small j d within in
      let rises = order i j d lt within in
      let up = rises.0 in
      let down = all.rise (get_or xs j d) (get_or xs i d) at_j at_i (Reaches-weaker (λ k k_lt h. refl) back) in
      let firm_up = rises.1 (omega arith) in
      let firm_down = by_firm.rise (get_or xs j d) (get_or xs i d) at_j at_i back in
      by_firm.same (get_or xs i d) (get_or xs j d) at_i at_j (omega arith)

  together : IsTogether links xs
  together i j k lt lt2 within m =
      let at_i = small i 0 (omega arith) in
      let at_j = small j 0 (omega arith) in
      let at_k = small k 0 within in
      let up = (order i j 0 lt (omega arith)).0 in
      let more = (order j k 0 lt2 within).0 in
      let same = level all (get_or xs i 0) (get_or xs k 0) at_i at_k m in
      mutual_at all (get_or xs i 0) (get_or xs j 0) at_i at_j (omega arith)

  pub IsListing-from_ranks : IsListing links firm (λ v. ltb v nodes) xs
  IsListing-from_ranks = record {
    once = AllPairs-from_IsDistinct Decides-eqb xs (IsDistinct-IsPermutation eqb eqb-flips (numbers_below nodes) xs perm (IsDistinct-from_AllPairs Decides-eqb (numbers_below nodes) (numbers-apart nodes)));
    each = λ v. (λ inside. lt-ltb v nodes (All-contains (λ u. u < nodes) xs v small inside), λ h. Contains-permutation (numbers_below nodes) xs v perm (numbers-all nodes v (ltb-true v nodes h)));
    together = together;
    forward = forward;
    firm_forward = firm_forward;
  }
    where
      eqb-flips : (x y : ℕ) → eqb x y ≡ eqb y x
      eqb-flips x y = grind (arith, nat_tests)

-- the members of a listing that are in a set
pub IsListing-filter : (links : List Link) (firm members : ℕ → Bool) (p : ℕ → Bool) (xs : List ℕ) → IsListing links firm members xs → IsListing links firm (λ v. members v && p v) (filter p xs)
IsListing-filter links firm members p xs h = record {
  once = AllPairs-filter (λ x y. x ≢ y) p xs h.once;
  each = λ v. (λ inside. let c = Contains-filter_cases p xs v inside in and_from (members v) (p v) ((h.each v).0 c.0) c.1, λ e. let parts = and_parts (members v) (p v) e in Contains-filter p xs v ((h.each v).1 parts.0) parts.1);
  together = triples_filter (λ a b c. AreMutual links any_link a c → AreMutual links any_link a b) p xs 0 h.together;
  forward = AllPairs-filter (λ x y. Reaches links any_link y x → Reaches links any_link x y) p xs h.forward;
  firm_forward = AllPairs-filter (λ x y. Reaches links firm y x → Reaches links firm x y) p xs h.firm_forward;
}
