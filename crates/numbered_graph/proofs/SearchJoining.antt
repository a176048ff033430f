-- All knots from the one of a place on become one.
use Rattle.std.proofs.Common.{◌≡◌, ℕ, ◌<◌, ◌≤◌, Bool, List, [], ◌∷◌, ◌++◌, length, get_or, sym, subst, inl, inr, ⊎_elim, All, AllPairs, arith}
use Rattle.std.proofs.lemmas.Bool.{cases_lt}
use Rattle.std.proofs.lemmas.List.Elements.{All-append, All-weaker}
use Rattle.numbered_graph.specs.declared.link.Link.{Link}
use Rattle.numbered_graph.specs.Paths.{Reaches}
use Rattle.numbered_graph.specs.Searches.{Lists, IsNoEarlier, JoinsAt, Searches}
use Rattle.numbered_graph.proofs.PathFacts.{Reaches-trans}
use Rattle.numbered_graph.proofs.ListParts.{All-left, AllPairs-left}

first-left : (left ends : List ℕ) (n p : ℕ) → All (λ e. p < e) ends → get_or (left ++ ends) 0 n ≡ 0 → get_or left 0 n ≡ 0
first-left [] [] n p past h = h
first-left [] (e ∷ ends) n p past h = let late = past 0 0 (omega arith) in absurd (omega arith)
first-left (x ∷ left) ends n p past h = h

module _ {links : List Link} {passes : ℕ → Bool} {nodes : ℕ} {s : Lists} (h : Searches links passes nodes s) (p : ℕ) (lt : p < length s.path) (leads : (k : ℕ) → k < length s.path → Reaches links passes (get_or s.path p 0) (get_or s.path k 0)) (left : List ℕ) (joins : JoinsAt p s.starts left) where
  -- what holds of all starts, and of those that are left
  part : (P : ℕ → Type 0) → All P s.starts → All P left
  part P all = All-left P left joins.is_cut.ends (subst (All P) joins.is_cut.cut all)

  whole : (P : ℕ → Type 0) → All P left → ((e : ℕ) → p < e → P e) → All P s.starts
  whole P all past = subst (All P) (sym joins.is_cut.cut) (All-append P left joins.is_cut.ends all (All-weaker (λ e. p < e) P past joins.is_cut.ends joins.is_cut.past))

  knotted' : (i k : ℕ) → i < length s.path → k < length s.path → IsNoEarlier left i k → Reaches links passes (get_or s.path i 0) (get_or s.path k 0)
  knotted' i k lt_i lt_k ne =
      ⊎_elim (λ after. Reaches-trans (h.knotted i p lt_i lt (whole (λ a. a ≤ p → a ≤ i) (All-weaker (λ a. a ≤ k → a ≤ i) (λ a. a ≤ p → a ≤ i) (λ a f le. f (omega arith)) left ne) (λ e past le. absurd (omega arith)))) (leads k lt_k)) (λ before. h.knotted i k lt_i lt_k (whole (λ a. a ≤ k → a ≤ i) ne (λ e past le. absurd (omega arith)))) (cases_lt p k)

  pub Searches-join : Searches links passes nodes (record s { starts = left })
  Searches-join = record {
    sized = h.sized;
    cursors = h.cursors;
    path = h.path;
    starts = record {
      rising = AllPairs-left (λ a b. a < b) left joins.is_cut.ends (subst (λ xs. AllPairs (λ a b. a < b) xs) joins.is_cut.cut h.starts.rising);
      within = part (λ a. a < length s.path) h.starts.within;
      first = first-left left joins.is_cut.ends (length s.path) p joins.is_cut.past (subst (λ xs. get_or xs 0 (length s.path) ≡ 0) joins.is_cut.cut h.starts.first);
    };
    knotted = knotted';
    followed = λ j i small ok o before. ⊎_elim (λ ranked. inl ranked) (λ k. inr (k.0, k.1, part (λ a. a ≤ i → a ≤ k.0) k.2)) (h.followed j i small ok o before);
    ranked = h.ranked;
    todo = h.todo;
    counted = h.counted;
  }
