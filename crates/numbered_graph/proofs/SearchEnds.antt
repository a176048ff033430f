-- Before the first node, and after the last one.
use Rattle.std.proofs.Common.{◌≡◌, ℕ, zero, suc, ◌<◌, ◌≤◌, Bool, eqb, List, [], length, get_or, replicate, refl, subst, ⊎_elim, arith}
use Rattle.std.proofs.lemmas.Bool.{cases_lt}
use Rattle.std.proofs.lemmas.List.{get_or_past, length-replicate}
use Rattle.std.proofs.lemmas.List.Sums.{count_by-le-length}
use Rattle.numbered_graph.specs.declared.link.Link.{Link}
use Rattle.numbered_graph.specs.declared.direction.Direction.TheVariants.{Reverse}
use Rattle.numbered_graph.specs.Links.{near_at}
use Rattle.numbered_graph.specs.Chains.{IsNextLink}
use Rattle.numbered_graph.specs.Ranks.{AreRanks}
use Rattle.numbered_graph.specs.Searches.{Lists, unplaced, IsOpen, Searches}
use Rattle.numbered_graph.proofs.PathFacts.{IsPath-carries_back}

abbrev pub zeros : ℕ → List ℕ
zeros n = replicate n 0

get_or-zeros : (n v : ℕ) → get_or (zeros n) v 0 ≡ 0
get_or-zeros zero v = refl
get_or-zeros (suc n) zero = refl
get_or-zeros (suc n) (suc v) = get_or-zeros n v

none_open : (n v i : ℕ) → IsOpen (zeros n) (zeros n) v i → ⊥
none_open n v i o = let placed = o.placed in let none = get_or-zeros n v in absurd (omega arith)

none_placed : (n : ℕ) → unplaced (zeros n) ≤ n
none_placed n =
    let most : unplaced (zeros n) ≤ length (zeros n) = count_by-le-length (λ p. eqb p 0) (zeros n) in
    let size : length (zeros n) ≡ n = length-replicate n 0 in
    omega arith

pub Searches-start : (links : List Link) (passes : ℕ → Bool) (nodes : ℕ) (first : List ℕ) → length first ≡ nodes → ((v : ℕ) → v < nodes → IsNextLink Reverse links v 0 (get_or first v 0)) → Searches links passes nodes (record { cursors = first; places = zeros nodes; ranks = zeros nodes; path = []; starts = []; todo = []; closed = 0 })
Searches-start links passes nodes first sized firsts = record {
  sized = record { cursors_sized = sized; places_sized = length-replicate nodes 0; ranks_sized = length-replicate nodes 0 };
  cursors = record {
    follows = λ v below. (firsts v below).follows;
    unmet = λ j lt new. ⊎_elim (λ small. ⊎_elim (λ past. absurd ((firsts (near_at Reverse links j) small).none_between j (omega arith) past refl)) (λ le. le) (cases_lt j (get_or first (near_at Reverse links j) 0))) (λ past. let none = get_or_past first (near_at Reverse links j) 0 (omega arith) in omega arith) (cases_lt (near_at Reverse links j) nodes);
  };
  path = record {
    below = λ k d lt. absurd (omega arith);
    open_at = λ i lt. absurd (omega arith);
    found = λ v i o. absurd (none_open nodes v i o);
    ranked_placed = λ v ranked. absurd (let none = get_or-zeros nodes v in omega arith);
  };
  starts = record { rising = λ i j d lt small. absurd (omega arith); within = λ k d lt. absurd (omega arith); first = refl };
  knotted = λ i k lt. absurd (omega arith);
  followed = λ j i lt ok o. absurd (none_open nodes (near_at Reverse links j) i o);
  ranked = record {
    back = λ j lt ok ranked. absurd (let none = get_or-zeros nodes (near_at Reverse links j) in omega arith);
    same = λ a b ranked. absurd (let none = get_or-zeros nodes a in omega arith);
    most = λ v. let none = get_or-zeros nodes v in omega arith;
  };
  todo = record {
    opened = λ k d lt. absurd (omega arith);
    rising = λ i j d lt small. absurd (omega arith);
    all = λ v i o. absurd (none_open nodes v i o);
  };
  counted = let all = none_placed nodes in omega arith;
}

module _ {links : List Link} {passes : ℕ → Bool} {nodes : ℕ} {s : Lists} (h : Searches links passes nodes s) (idle : s.starts ≡ []) where
  pub no_path : length s.path ≡ 0
  no_path = subst (λ xs. get_or xs 0 (length s.path) ≡ 0) idle h.starts.first

  -- each node that was put on the path has a rank
  placed_ranked : (v i : ℕ) → get_or s.places v 0 ≡ suc i → 0 < get_or s.ranks v 0
  placed_ranked v i placed = ⊎_elim (λ ranked. ranked) (λ none. absurd (let lt = (h.path.found v i (record { placed = placed; unranked = omega arith })).0 in let empty = no_path in omega arith)) (cases_lt 0 (get_or s.ranks v 0))

  module _ (placed : (v : ℕ) → v < nodes → 0 < get_or s.places v 0) where
    pred_of : (n : ℕ) → 0 < n → (i : ℕ) × (n ≡ suc i)
    pred_of zero lt = absurd (omega arith)
    pred_of (suc i) lt = (i, refl)

    all_ranked : (v : ℕ) → v < nodes → 0 < get_or s.ranks v 0
    all_ranked v lt = let p = pred_of (get_or s.places v 0) (placed v lt) in placed_ranked v p.0 p.1

    pub AreRanks-at_end : AreRanks links passes nodes s.ranks
    AreRanks-at_end = record {
      sized = h.sized.ranks_sized;
      rise = λ a b lt_a lt_b r. (IsPath-carries_back links passes (λ v. (0 < get_or s.ranks v 0) × (get_or s.ranks v 0 ≤ get_or s.ranks b 0)) (λ j lt ok near. let before = h.ranked.back j lt ok near.0 in let up = near.1 in let rises = before.1 in (before.0, omega arith)) a r.path b r.leads (all_ranked b lt_b, omega arith)).1;
      same = λ a b lt_a lt_b e. h.ranked.same a b (all_ranked a lt_a) e;
    }
