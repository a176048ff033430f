-- The first place of a list that passes a test, as the list is gone through.
use Rattle.std.proofs.Common.{◌≡◌, ℕ, ◌+◌, ◌<◌, Bool, true, false, not, ◌||◌, cond, List, [], ◌∷◌, ◌++◌, Option, Some, None, length, get_or, take, drop, refl, sym, ◌∙◌, ap, subst, append-nil, append_assoc, add-one, take-append-drop, length-take, arith, if◌then◌else◌}
use Rattle.std.specs.Cmp.{IsEquivalence}
use Rattle.std.specs.List.{list_any}
use Rattle.std.specs.Option.{option_map}
use Rattle.std.proofs.lemmas.List.{drop_more, take_more}
use Rattle.std.proofs.lemmas.List.Folds.{list_any-append}
use Rattle.guppy_package_rules.specs.Places.{first_place_after, first_place, first_repeat}

abbrev pub from_here : Bool → Option ℕ → Option ℕ
from_here b later = if b then Some 0 else option_map (λ i. i + 1) later

pub none_here : (b : Bool) (later : Option ℕ) → from_here b later ≡ None → (b ≡ false) × (later ≡ None)
none_here true later e = absurd cc
none_here false None e = (refl, refl)
none_here false (Some i) e = absurd cc

module _ {X : Type 0} (test : List X → X → Bool) where
  fails_after : (before ys : List X) (x : X) → first_place_after test before ys ≡ None → test (before ++ ys) x ≡ false → first_place_after test before (ys ++ x ∷ []) ≡ None
  fails_after before [] x none fails =
      ap (λ b. from_here b None) (subst (λ s. test s x ≡ false) (append-nil before) fails)
  fails_after before (y ∷ ys) x none fails =
      let both = none_here (test before y) (first_place_after test (before ++ y ∷ []) ys) none in
      ap (λ b. from_here b (first_place_after test (before ++ y ∷ []) (ys ++ x ∷ []))) both.0 ∙ ap (from_here false) (fails_after (before ++ y ∷ []) ys x both.1 (subst (λ s. test s x ≡ false) (sym (append_assoc before (y ∷ []) ys)) fails))

  passes_after : (before ys : List X) (x : X) (zs : List X) → first_place_after test before ys ≡ None → test (before ++ ys) x ≡ true → first_place_after test before (ys ++ x ∷ zs) ≡ Some (length ys)
  passes_after before [] x zs none passes =
      ap (λ b. from_here b (first_place_after test (before ++ x ∷ []) zs)) (subst (λ s. test s x ≡ true) (append-nil before) passes)
  passes_after before (y ∷ ys) x zs none passes =
      let both = none_here (test before y) (first_place_after test (before ++ y ∷ []) ys) none in
      ap (λ b. from_here b (first_place_after test (before ++ y ∷ []) (ys ++ x ∷ zs))) both.0 ∙ ap (from_here false) (passes_after (before ++ y ∷ []) ys x zs both.1 (subst (λ s. test s x ≡ true) (sym (append_assoc before (y ∷ []) ys)) passes)) ∙ ap Some (add-one (length ys))

  -- no place before i passes, and place i does
  pub passes_at : (xs : List X) (i : ℕ) (x : X) → i < length xs → get_or xs i x ≡ x → first_place test (take i xs) ≡ None → test (take i xs) x ≡ true → first_place test xs ≡ Some i
  passes_at xs i x lt is none passes =
      let cut : take i xs ++ x ∷ drop (i + 1) xs ≡ xs = ap (λ y. take i xs ++ y ∷ drop (i + 1) xs) (sym is) ∙ ap (λ ys. take i xs ++ ys) (sym (drop_more xs i x lt)) ∙ take-append-drop i xs in
      let count : length (take i xs) ≡ i = omega (arith, length-take i xs) in
      ap (first_place test) (sym cut) ∙ passes_after [] (take i xs) x (drop (i + 1) xs) none passes ∙ ap Some count

  -- no place before i passes, and place i does not
  pub fails_at : (xs : List X) (i : ℕ) (x : X) → i < length xs → get_or xs i x ≡ x → first_place test (take i xs) ≡ None → test (take i xs) x ≡ false → first_place test (take (i + 1) xs) ≡ None
  fails_at xs i x lt is none fails =
      ap (first_place test) (take_more xs i x lt ∙ ap (λ y. take i xs ++ y ∷ []) is) ∙ fails_after [] (take i xs) x none fails

not_true : (t : Bool) → not t ≡ true → t ≡ false
not_true true e = sym e
not_true false e = refl

not_false : (t : Bool) → not t ≡ false → t ≡ true
not_false true e = refl
not_false false e = sym e

joined : (a b : Bool) → cond a true b ≡ (b || (a || false))
joined true true = refl
joined true false = refl
joined false true = refl
joined false false = refl

module _ {K : Type 0} {same : K → K → Bool} (laws : IsEquivalence same) where
  -- the set tells whether a key was seen
  abbrev pub HoldsSeen : List K → List K → Type 0
  HoldsSeen keys seen = (q : K) → list_any (same q) keys ≡ list_any (same q) seen

  -- the set has one key more
  abbrev pub TakesIn : List K → K → List K → Type 0
  TakesIn old k new = (q : K) → list_any (same q) new ≡ cond (same k q) true (list_any (same q) old)

  pub seen_more : (old new seen : List K) (k : K) → HoldsSeen old seen → TakesIn old k new → HoldsSeen new (seen ++ k ∷ [])
  seen_more old new seen k held put q =
      put q ∙ ap (λ b. cond b true (list_any (same q) old)) (IsEquivalence.symm laws k q) ∙ ap (cond (same q k) true) (held q) ∙ joined (same q k) (list_any (same q) seen) ∙ sym (list_any-append (same q) seen (k ∷ []))

  -- the key at place i is not new, so it is the first repeat
  pub repeats_at : (keys held : List K) (i : ℕ) (k : K) (added : Bool) → i < length keys → k ≡ get_or keys i k → first_repeat same (take i keys) ≡ None → HoldsSeen held (take i keys) → added ≡ not (list_any (same k) held) → added ≡ false → Some i ≡ first_repeat same keys
  repeats_at keys held i k added lt is none seen told old =
      sym (passes_at (λ before x. list_any (same x) before) keys i k lt (sym is) none (sym (seen k) ∙ not_false (list_any (same k) held) (sym told ∙ old)))

  -- the key at place i is new
  pub goes_on : (keys old new : List K) (i : ℕ) (k : K) (added : Bool) → i < length keys → k ≡ get_or keys i k → first_repeat same (take i keys) ≡ None → HoldsSeen old (take i keys) → added ≡ not (list_any (same k) old) → added ≡ true → TakesIn old k new → (first_repeat same (take (i + 1) keys) ≡ None) × HoldsSeen new (take (i + 1) keys)
  goes_on keys old new i k added lt is none seen told fresh put =
      let more : take (i + 1) keys ≡ take i keys ++ k ∷ [] = take_more keys i k lt ∙ ap (λ x. take i keys ++ x ∷ []) (sym is) in (
        fails_at (λ before x. list_any (same x) before) keys i k lt (sym is) none (sym (seen k) ∙ not_true (list_any (same k) old) (sym told ∙ fresh)),
        subst (HoldsSeen new) (sym more) (seen_more old new (take i keys) k seen put),
      )
