-- What stands in a part of a list.
use Rattle.std.proofs.Common.{◌≡◌, ◌∙◌, ◌↔◌, ℕ, ◌+◌, ◌-◌, ◌%◌, ◌<◌, ◌≤◌, Bool, true, false, cond, List, [], ◌∷◌, length, get_or, map, filter, Contains, Ordering, Less, Equal, refl, sym, ap, subst, ⊎_elim, arith, zero-add}
use Rattle.std.specs.Cmp.{tied_itself}
use Rattle.std.specs.List.{AllByRecursion, enumerate_from}
use Rattle.std.specs.List.Sorted.{IsStrictlySortedBy}
use Rattle.std.proofs.lemmas.Bool.{cases_lt}
use Rattle.std.proofs.lemmas.Bool.Decides.{Decides-eqb}
use Rattle.std.proofs.lemmas.List.{get_or_default}
use Rattle.std.proofs.lemmas.List.Kept.{IsStrictlySortedBy-filter}
use Rattle.std.proofs.lemmas.List.FromFn.{get_or-enumerate_from, length-enumerate_from}
use Rattle.std.proofs.lemmas.Map.Keys.{Less-from_sorted}
use Rattle.std.proofs.lemmas.Nat.{mod_below}
use Rattle.list_facts.specs.Ascending.{pair_cmp}
use Rattle.list_facts.proofs.Ascending.{pair_total, sorted-map}
use Rattle.list_facts.proofs.Membership.{Contains-filter, Contains-filter_cases, Contains-map, Contains-map_cases}
use Rattle.workspace_record.specs.Records.{Text}
use Rattle.test_select_tests.specs.Partitions.{is_in_part, part_of}
use Rattle.test_select_tests.specs.PartLaws.{IsOfThisAlone, IsPart}

-- the part of what is shown of a list
module _ {A B : Type 0} (f : A → B) (part parts : ℕ) where
  kept : (b : Bool) (n : ℕ) (x : A) (xs : List (ℕ × A)) (ys : List (ℕ × B)) → map (λ e. f e.1) xs ≡ map (λ e. e.1) ys → map (λ e. f e.1) (cond b ((n, x) ∷ xs) xs) ≡ map (λ e. e.1) (cond b ((n, f x) ∷ ys) ys)
  kept true n x xs ys same = ap (λ zs. f x ∷ zs) same
  kept false n x xs ys same = same

  shown : (n : ℕ) (xs : List A) → map (λ e. f e.1) (filter (λ e. is_in_part part parts e.0) (enumerate_from n xs)) ≡ map (λ e. e.1) (filter (λ e. is_in_part part parts e.0) (enumerate_from n (map f xs)))
  shown n [] = refl
  shown n (x ∷ xs) = kept (is_in_part part parts n) n x _ _ (shown (n + 1) xs)

  once : (es : List (ℕ × A)) → map f (map (λ e. e.1) es) ≡ map (λ e. f e.1) es
  once [] = refl
  once (e ∷ es) = ap (λ zs. f e.1 ∷ zs) (once es)

  pub map-part_of : (xs : List A) → map f (part_of part parts xs) ≡ part_of part parts (map f xs)
  map-part_of xs = once (filter (λ e. is_in_part part parts e.0) (enumerate_from 0 xs)) ∙ shown 0 xs

-- the element stands at this place of a list
record StandsAt {A : Type 0} (xs : List A) (x : A) (place : ℕ) : Type 0 where
  within : place < length xs
  is : get_or xs place x ≡ x

-- what is in a part stands at a place of the part
module _ {A : Type 0} (part parts : ℕ) (xs : List A) (x : A) where
  in_part : (place : ℕ) → StandsAt xs x place → is_in_part part parts place ≡ true → Contains (part_of part parts xs) x
  in_part place at here =
      let size = length-enumerate_from 0 xs in
      let entry : get_or (enumerate_from 0 xs) place (place, x) ≡ (place, x) = get_or-enumerate_from 0 xs place (place, x) at.within ∙ (λ i. (zero-add place i, at.is i)) in
      let within : place < length (enumerate_from 0 xs) = let lt = at.within in omega arith in
      Contains-map (λ e. e.1) (filter (λ e. is_in_part part parts e.0) (enumerate_from 0 xs)) (place, x) (Contains-filter (λ e. is_in_part part parts e.0) (enumerate_from 0 xs) (place, x) (place, within, entry) here)

  place_in : Contains (part_of part parts xs) x → (place : ℕ) × StandsAt xs x place × (is_in_part part parts place ≡ true)
  place_in h =
      let found = Contains-map_cases (λ e. e.1) (filter (λ e. is_in_part part parts e.0) (enumerate_from 0 xs)) x h in
      let kept = Contains-filter_cases (λ e. is_in_part part parts e.0) (enumerate_from 0 xs) found.0 found.1 in
      let place = kept.0.0 in
      let size = length-enumerate_from 0 xs in
      let lt = kept.0.1 in
      let within : place < length xs = omega arith in
      let entry : (0 + place, get_or xs place found.0.1) ≡ found.0 = sym (get_or-enumerate_from 0 xs place found.0 within) ∙ kept.0.2 in
      let at : place ≡ found.0.0 = sym (zero-add place) ∙ ap (λ (e : ℕ × A). e.0) entry in
      let is : get_or xs place x ≡ x = get_or_default xs place x found.0.1 within ∙ ap (λ (e : ℕ × A). e.1) entry ∙ found.2 in
      (place, record { within = within; is = is }, subst (λ n. is_in_part part parts n ≡ true) (sym at) kept.1)

at_place : {A : Type 0} (xs : List A) (x : A) → Contains xs x → (place : ℕ) × StandsAt xs x place
at_place xs x h = (h.0, record { within = h.1; is = h.2 })

-- the part that a place is of
its_part : (parts place : ℕ) → 1 ≤ parts → IsPart (place % parts + 1) parts
its_part parts place one =
    let below = mod_below place parts (omega arith) in
    record { from_one = omega arith; within = omega arith }

is_there : (parts place : ℕ) → is_in_part (place % parts + 1) parts place ≡ true
is_there parts place = (Decides-eqb (place % parts) (place % parts + 1 - 1)).1 (omega arith)

no_other : (place parts one other : ℕ) → IsPart one parts → IsPart other parts → is_in_part one parts place ≡ true → is_in_part other parts place ≡ true → one ≡ other
no_other place parts one other p q here there =
    let a = (Decides-eqb (place % parts) (one - 1)).0 here in
    let b = (Decides-eqb (place % parts) (other - 1)).0 there in
    let low = p.from_one in
    let lower = q.from_one in
    omega arith

pub of_one_part : (parts place : ℕ) → 1 ≤ parts → (part : ℕ) × IsOfThisAlone place part parts
of_one_part parts place one =
    (place % parts + 1, record { is = its_part parts place one; here = is_there parts place; alone = λ other is there. no_other place parts other (place % parts + 1) is (its_part parts place one) there (is_there parts place) })

pub parts_together : {A : Type 0} (parts : ℕ) (xs : List A) (x : A) → 1 ≤ parts → Contains xs x ↔ ((part : ℕ) × IsPart part parts × Contains (part_of part parts xs) x)
parts_together parts xs x one = (
  λ h.
      let at = at_place xs x h in
      (at.0 % parts + 1, its_part parts at.0 one, in_part (at.0 % parts + 1) parts xs x at.0 at.1 (is_there parts at.0)),
  λ h. let at = place_in h.0 parts xs x h.2 in (at.0, at.1.within, at.1.is),
)

-- what ascends has each element at one place
one_place : (pairs : List (Text × Text)) (pair : Text × Text) (i j : ℕ) → IsStrictlySortedBy pair_cmp pairs → StandsAt pairs pair i → StandsAt pairs pair j → i ≡ j
one_place pairs pair i j sorted here there =
    ⊎_elim (λ lt. absurd (never i j here there lt)) (λ le. ⊎_elim (λ lt. absurd (never j i there here lt)) (λ other. omega arith) (cases_lt j i)) (cases_lt i j)
  where
    never : (a b : ℕ) → StandsAt pairs pair a → StandsAt pairs pair b → a < b → ⊥
    never a b at to lt =
        let below = Less-from_sorted pair_cmp pairs a b pair sorted lt to.within in
        let tied : pair_cmp pair pair ≡ Equal = tied_itself pair_total pair in
        let less : pair_cmp pair pair ≡ Less = sym (λ i. pair_cmp (at.is i) (to.is i)) ∙ below in
        cc (less, tied)

pub nothing_shared : (parts one other : ℕ) (pairs : List (Text × Text)) (pair : Text × Text) → IsStrictlySortedBy pair_cmp pairs → IsPart one parts → IsPart other parts → Contains (part_of one parts pairs) pair → Contains (part_of other parts pairs) pair → one ≡ other
nothing_shared parts one other pairs pair sorted p q here there =
    let at = place_in one parts pairs pair here in
    let to = place_in other parts pairs pair there in
    let same = one_place pairs pair to.0 at.0 sorted to.1 at.1 in
    no_other at.0 parts one other p q at.2 (subst (λ n. is_in_part other parts n ≡ true) same to.2)

-- numbered elements ascend as they do without their numbers
numbered_below : {A : Type 0} (cmp : A → A → Ordering) (n : ℕ) (x : A) (xs : List A) → AllByRecursion (λ y. cmp x y ≡ Less) xs → AllByRecursion (λ (e : ℕ × A). cmp x e.1 ≡ Less) (enumerate_from n xs)
numbered_below cmp n x [] h = tt
numbered_below cmp n x (y ∷ ys) h = (h.0, numbered_below cmp (n + 1) x ys h.1)

numbered_sorted : {A : Type 0} (cmp : A → A → Ordering) (n : ℕ) (xs : List A) → IsStrictlySortedBy cmp xs → IsStrictlySortedBy (λ (d e : ℕ × A). cmp d.1 e.1) (enumerate_from n xs)
unfolding IsStrictlySortedBy
numbered_sorted cmp n [] h = tt
numbered_sorted cmp n (x ∷ xs) h = (numbered_below cmp (n + 1) x xs h.0, numbered_sorted cmp (n + 1) xs h.1)

pub part_ascends : (part parts : ℕ) (pairs : List (Text × Text)) → IsStrictlySortedBy pair_cmp pairs → IsStrictlySortedBy pair_cmp (part_of part parts pairs)
part_ascends part parts pairs sorted =
    let test = λ (e : ℕ × (Text × Text)). is_in_part part parts e.0 in
    let kept = IsStrictlySortedBy-filter (λ (d e : ℕ × (Text × Text)). pair_cmp d.1 e.1) test (enumerate_from 0 pairs) (numbered_sorted pair_cmp 0 pairs sorted) in
    sorted-map (λ (e : ℕ × (Text × Text)). e.1) pair_cmp (filter test (enumerate_from 0 pairs)) kept
