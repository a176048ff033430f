-- What holds of the parts of a list, and pairs in order.
use Rattle.std.proofs.Common.{◌≡◌, ℕ, ◌+◌, ◌-◌, ◌<◌, Bool, true, false, cond, eqb, List, [], ◌∷◌, ◌++◌, length, get_or, take, filter, flat_map, subst, sym, ap, ◌∙◌, All, AllPairs, Contains, refl, arith}
use Rattle.std.proofs.lemmas.Bool.{eq-eqb, eqb-true}
use Rattle.std.proofs.lemmas.List.{length-append, get_or_append_left, get_or-append-add, get_or_default, get_or_push, length_push, take_all, take_more, take_at}
use Rattle.std.proofs.lemmas.List.Elements.{All-head, All-tail, Contains-get_or}
use Rattle.std.proofs.lemmas.List.Kept.{AllPairs-cons}
use Rattle.list_facts.proofs.Membership.{Contains-filter, Contains-filter_cases, Contains-flat_map}
use Rattle.list_facts.proofs.Quantifiers.{All-from_Contains, list_any-from_Contains, list_any_cases}
use Rattle.numbered_graph.specs.Cycles.{has_node}

module _ {X : Type 0} where
  pub All-left : (P : X → Type 0) (xs ys : List X) → All P (xs ++ ys) → All P xs
  All-left P xs ys h k d lt = subst P (get_or_append_left xs ys d k lt) (h k d (let size = length-append xs ys in omega arith))

  pub AllPairs-left : (R : X → X → Type 0) (xs ys : List X) → AllPairs R (xs ++ ys) → AllPairs R xs
  AllPairs-left R xs ys h i j d lt small =
      subst (λ x. R x (get_or xs j d)) (get_or_append_left xs ys d i (omega arith)) (subst (λ y. R (get_or (xs ++ ys) i d) y) (get_or_append_left xs ys d j small) (h i j d lt (let size = length-append xs ys in omega arith)))

  -- what is so of each element and the last one
  pub AllPairs-last : (R : X → X → Type 0) (xs : List X) (y : X) → AllPairs R (xs ++ y ∷ []) → All (λ x. R x y) xs
  AllPairs-last R xs y h k d lt =
      subst (λ x. R x y) (get_or_append_left xs (y ∷ []) d k lt) (subst (λ z. R (get_or (xs ++ y ∷ []) k d) z) (get_or_push xs y d (length xs) refl) (h k (length xs) d lt (let size = length_push xs y in omega arith)))

  AllPairs-right : (R : X → X → Type 0) (xs ys : List X) → AllPairs R (xs ++ ys) → AllPairs R ys
  AllPairs-right R xs ys h i j d lt small =
      subst (λ x. R x (get_or ys j d)) (get_or-append-add xs ys i d) (subst (λ y. R (get_or (xs ++ ys) (length xs + i) d) y) (get_or-append-add xs ys j d) (h (length xs + i) (length xs + j) d (omega arith) (let size = length-append xs ys in omega arith)))

  AllPairs-across : (R : X → X → Type 0) (xs ys : List X) → AllPairs R (xs ++ ys) → (u v : X) → Contains xs u → Contains ys v → R u v
  AllPairs-across R xs ys h u v left right =
      let size = length-append xs ys in
      let left_lt : left.0 < length xs = left.1 in
      let right_lt : right.0 < length ys = right.1 in
      let at_u : get_or (xs ++ ys) left.0 u ≡ u = get_or_append_left xs ys u left.0 left_lt ∙ left.2 in
      let at_v : get_or (xs ++ ys) (length xs + right.0) u ≡ v = get_or-append-add xs ys right.0 u ∙ get_or_default ys right.0 u v right_lt ∙ right.2 in
      subst (λ x. R x v) at_u (subst (λ y. R (get_or (xs ++ ys) left.0 u) y) at_v (h left.0 (length xs + right.0) u (omega arith) (omega arith)))

  -- what is so of each two elements in order is so of each two parts in order
  pub AllPairs-parts : (R : X → X → Type 0) (parts : List (List X)) → AllPairs R (flat_map (λ c. c) parts) → AllPairs (λ c e. (u v : X) → Contains c u → Contains e v → R u v) parts
  AllPairs-parts R [] h = λ i j d lt small. absurd (omega arith)
  AllPairs-parts R (c ∷ parts) h =
      AllPairs-cons (λ c e. (u v : X) → Contains c u → Contains e v → R u v) c parts
      (λ k d lt u v in_c in_e. AllPairs-across R c (flat_map (λ e. e) parts) h u v in_c (Contains-flat_map (λ e. e) parts (get_or parts k d) v (Contains-get_or parts k d lt) in_e))
      (AllPairs-parts R parts (AllPairs-right R c (flat_map (λ e. e) parts) h))

  filter_alike : (p q : X → Bool) (xs : List X) → All (λ x. p x ≡ q x) xs → filter p xs ≡ filter q xs
  filter_alike p q [] h = refl
  filter_alike p q (x ∷ xs) h =
      ap (λ b. cond b (x ∷ filter p xs) (filter p xs)) (All-head (λ y. p y ≡ q y) x xs h) ∙ ap (λ ys. cond (q x) (x ∷ ys) ys) (filter_alike p q xs (All-tail (λ y. p y ≡ q y) x xs h))

both_true : (a b : Bool) → (a ≡ true → b ≡ true) → (b ≡ true → a ≡ true) → a ≡ b
both_true true b there back = sym (there refl)
both_true false true there back = back refl
both_true false false there back = refl

-- what a filter keeps is the list without what is not kept
pub filter_among : (p : ℕ → Bool) (xs : List ℕ) → filter p xs ≡ filter (λ v. has_node v (filter p xs)) xs
filter_among p xs =
    filter_alike p (λ v. has_node v (filter p xs)) xs
    (All-from_Contains (λ x. p x ≡ has_node x (filter p xs)) xs (λ x inside. both_true (p x) (has_node x (filter p xs))
    (λ pass. list_any-from_Contains (eqb x) (filter p xs) x (Contains-filter p xs x inside pass) (eq-eqb x x refl))
    (λ among. let found = list_any_cases (eqb x) (filter p xs) among in subst (λ y. p y ≡ true) (sym (eqb-true x found.0 found.2)) (Contains-filter_cases p xs found.0 found.1).1)))

-- a list that is not empty is its front and its last element
pub split_last : (xs : List ℕ) → 0 < length xs → xs ≡ take (length xs - 1) xs ++ get_or xs (length xs - 1) 0 ∷ []
split_last xs some =
    let whole = take_all (length xs - 1 + 1) xs (omega arith) in
    sym whole ∙ take_more xs (length xs - 1) 0 (omega arith)

pub take-front : (xs rest : List ℕ) (y : ℕ) (n : ℕ) → xs ≡ rest ++ y ∷ [] → n + 1 ≡ length xs → take n xs ≡ rest
take-front xs rest y n e size =
    let as_many = ap length e ∙ length_push rest y in
    let front : length rest ≡ n = omega arith in
    ap (take n) e ∙ take_at rest (y ∷ []) n front
