-- Nodes cut where their key changes.
use Rattle.std.proofs.Common.{◌≡◌, ◌≢◌, ℕ, ◌+◌, ◌-◌, ◌<◌, ◌≤◌, Bool, cond, List, [], ◌∷◌, ◌++◌, length, get_or, take, filter, flat_map, sym, subst, ap, ◌∙◌, ⊎_elim, All, Contains, append-nil, arith}
use Rattle.std.proofs.lemmas.Bool.{cases_lt}
use Rattle.std.proofs.lemmas.List.{get_or-append-add, get_or-take, length-take-le, get_or_default}
use Rattle.std.proofs.lemmas.List.Concat.{flat_map-append}
use Rattle.std.proofs.lemmas.List.Elements.{All-push, All-contains, Contains-get_or, filter_more}
use Rattle.std.proofs.lemmas.List.Quantifiers.{all_pairs_push}
use Rattle.list_facts.proofs.Membership.{Contains-flat_map}
use Rattle.numbered_graph.specs.Cycles.{IsRun, AreRuns, AreKeysTogether}
use Rattle.numbered_graph.proofs.Numbers.{push_or}

-- a loop's step: one element more is kept or left
pub kept_at : (p : ℕ → Bool) (xs : List ℕ) (i : ℕ) → i < length xs → (old new : List ℕ) → new ≡ cond (p (get_or xs i 0)) (old ++ get_or xs i 0 ∷ []) old → old ≡ filter p (take i xs) → new ≡ filter p (take (i + 1) xs)
kept_at p xs i lt old new made so_far =
    made ∙ sym (push_or (p (get_or xs i 0)) old (get_or xs i 0)) ∙ ap (λ ys. ys ++ cond (p (get_or xs i 0)) (get_or xs i 0 ∷ []) []) so_far ∙ sym (filter_more p xs i 0 lt)

-- a loop's end: the nodes from `start` on, up to the first with another key
pub run_ends : (keys nodes : List ℕ) (start at : ℕ) (run : List ℕ) → start < length nodes → at ≡ start + length run → at ≤ length nodes → take start nodes ++ run ≡ take at nodes → All (λ v. get_or keys v 0 ≡ get_or keys (get_or nodes start 0) 0) run → (at < length nodes → get_or keys (get_or nodes at 0) 0 ≢ get_or keys (get_or nodes start 0) 0) → IsRun keys nodes start run
run_ends keys nodes start at run lt is within whole level ends = record {
  some = ⊎_elim (λ some. some) (λ none. let here : at ≡ start = omega arith in absurd (ends (omega arith) (ap (λ n. get_or keys (get_or nodes n 0) 0) here))) (cases_lt 0 (length run));
  within = omega arith;
  whole = whole ∙ ap (λ n. take n nodes) is;
  level = level;
  ends = subst (λ n. n < length nodes → get_or keys (get_or nodes n 0) 0 ≢ get_or keys (get_or nodes start 0) 0) is ends;
}

module _ (keys nodes : List ℕ) (together : AreKeysTogether keys nodes) (runs : List (List ℕ)) (start : ℕ) (whole : flat_map (λ c. c) runs ≡ take start nodes) (are : AreRuns keys runs) (cut : (i : ℕ) → i < start → start < length nodes → get_or keys (get_or nodes i 0) 0 ≢ get_or keys (get_or nodes start 0) 0) (run : List ℕ) (is : IsRun keys nodes start run) where
  start_within : start < length nodes
  start_within = let some = is.some in let within = is.within in omega arith

  front : length (take start nodes) ≡ start
  front = length-take-le start nodes (let within = start_within in omega arith)

  pub flat_more : flat_map (λ c. c) (runs ++ run ∷ []) ≡ take (start + length run) nodes
  flat_more = flat_map-append (λ c. c) runs (run ∷ []) ∙ ap (λ xs. xs ++ (run ++ [])) whole ∙ ap (λ xs. take start nodes ++ xs) (append-nil run) ∙ is.whole

  at_run : (k : ℕ) → k < length run → get_or run k 0 ≡ get_or nodes (start + k) 0
  at_run k lt = sym (get_or-append-add (take start nodes) run k 0) ∙ ap (λ n. get_or (take start nodes ++ run) (n + k) 0) front ∙ ap (λ xs. get_or xs (start + k) 0) is.whole ∙ get_or-take (start + length run) nodes (start + k) 0 (omega arith)

  -- what an earlier run holds has another key
  earlier : (c : List ℕ) → Contains runs c → (u : ℕ) → Contains c u → get_or keys u 0 ≢ get_or keys (get_or nodes start 0) 0
  earlier c among u inside =
      let placed = subst (λ xs. Contains xs u) whole (Contains-flat_map (λ d. d) runs c u among inside) in
      let lt : placed.0 < start = let small = placed.1 in let size = front in omega arith in
      let there = sym (get_or-take start nodes placed.0 u lt) ∙ placed.2 in
      let at = sym (get_or_default nodes placed.0 u 0 (let within = start_within in omega arith)) ∙ there in
      subst (λ v. get_or keys v 0 ≢ get_or keys (get_or nodes start 0) 0) at (cut placed.0 lt start_within)

  pub runs_more : AreRuns keys (runs ++ run ∷ [])
  runs_more = record {
    some = All-push (λ c. 0 < length c) runs run are.some is.some;
    level = All-push (λ c. (u v : ℕ) → Contains c u → Contains c v → get_or keys u 0 ≡ get_or keys v 0) runs run are.level (λ u v inside also. level_of u inside ∙ sym (level_of v also));
    apart = all_pairs_push (λ c e. (u v : ℕ) → Contains c u → Contains e v → get_or keys u 0 ≢ get_or keys v 0) runs run are.apart (λ k d lt u v inside also. subst (λ m. get_or keys u 0 ≢ m) (sym (level_of v also)) (earlier (get_or runs k d) (Contains-get_or runs k d lt) u inside));
  }
    where
      level_of : (v : ℕ) → Contains run v → get_or keys v 0 ≡ get_or keys (get_or nodes start 0) 0
      level_of v inside = All-contains (λ w. get_or keys w 0 ≡ get_or keys (get_or nodes start 0) 0) run v is.level inside

  pub cut_more : (i : ℕ) → i < start + length run → start + length run < length nodes → get_or keys (get_or nodes i 0) 0 ≢ get_or keys (get_or nodes (start + length run) 0) 0
  cut_more i lt past same =
      ⊎_elim
      (λ before. cut i before start_within (together i start (start + length run) before (let some = is.some in omega arith) past same))
      (λ after. let k_lt : i - start < length run = omega arith in let place : start + (i - start) ≡ i = omega arith in let here = ap (λ v. get_or keys v 0) (at_run (i - start) k_lt ∙ ap (λ n. get_or nodes n 0) place) in is.ends past (sym same ∙ sym here ∙ is.level (i - start) 0 k_lt))
      (cases_lt i start)
