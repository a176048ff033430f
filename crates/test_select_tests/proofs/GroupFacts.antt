-- Tests that are grouped by binary, one after another.
use Rattle.std.proofs.Common.{◌≡◌, ◌≢◌, ◌∙◌, ◌↔◌, ℕ, zero, suc, ◌+◌, ◌<◌, List, [], ◌∷◌, ◌++◌, length, get_or, set, take, map, All, Contains, Ordering, Less, Equal, Greater, refl, sym, ap, subst, ⊎_elim, arith, ◌-◌, ◌≤◌, Bool, IsTrue, String, Vec, string_bytes, append-nil, append_assoc}
use Rattle.std.specs.Cmp.{tied_itself}
use Rattle.std.specs.Global.{Global}
use Rattle.std.specs.List.{AllAdjacentBelow, AllByRecursion, flat_map}
use Rattle.std.specs.List.Sorted.{IsStrictlySortedBy}
use Rattle.std.specs.Ordering.{ordering_then}
use Rattle.std.specs.String.{string_eq}
use Rattle.std.proofs.Math.Nat.{sub_self}
use Rattle.std.proofs.lemmas.Bool.{cases_lt}
use Rattle.std.proofs.lemmas.List.{get_or-map, get_or_append_left, get_or-append_right, length-map, length-set, length_push, map-append, map-set, take_all, take_more, take_more_set}
use Rattle.std.proofs.lemmas.List.Concat.{flat_map-append}
use Rattle.std.proofs.lemmas.List.Elements.{All-cons, All-contains, All-from_recursion, All-head, All-nil, All-push, All-tail}
use Rattle.std.proofs.lemmas.Slice.Eq.{bytes_eq-Decides}
use Rattle.std.proofs.lemmas.Map.Keys.{sorted_from_all_adjacent}
use Rattle.list_facts.specs.Ascending.{pair_cmp, text_cmp}
use Rattle.list_facts.specs.Texts.{texts}
use Rattle.list_facts.proofs.Ascending.{text_exact, text_total}
use Rattle.list_facts.proofs.Membership.{Contains-append_left, Contains-append_right, Contains-first, Contains-flat_map, Contains-flat_map_cases, Contains-map, Contains-map_cases}
use Rattle.list_facts.proofs.Quantifiers.{All-from_Contains}
use Rattle.workspace_record.specs.Records.{Text}
use Rattle.test_select_tests.specs.Grouping.{AreAscendingGroups, IsByBinary, IsOfLast, group_of, ids_of_groups, pairs_of}

-- the last element, and a list with another in its place
module _ {A : Type 0} (xs : List A) (i : ℕ) (last : i + 1 ≡ length xs) where
  pub ends_so : (d : A) → xs ≡ take i xs ++ get_or xs i d ∷ []
  ends_so d = sym (take_all (i + 1) xs (omega arith)) ∙ take_more xs i d (omega arith)

  pub set_last : (y : A) → set xs i y ≡ take i xs ++ y ∷ []
  set_last y =
      let size = length-set xs i y in
      sym (take_all (i + 1) (set xs i y) (omega arith)) ∙ take_more_set xs i y (omega arith)

front_filled : {A : Type 0} (P : A → Type 0) (xs ys : List A) → All P (xs ++ ys) → All P xs
front_filled P xs ys h = All-from_Contains P xs (λ x inside. All-contains P (xs ++ ys) x h (Contains-append_left xs ys x inside))

-- one test more in the last group
added_last : (pairs : List (Text × Text)) (front : List (Text × List Text)) (id : Text) (tests : List Text) (test : Text) → IsByBinary pairs (front ++ (id, tests) ∷ []) → IsByBinary (pairs ++ (id, test) ∷ []) (front ++ (id, tests ++ test ∷ []) ∷ [])
added_last pairs front id tests test was =
    let old : List (Text × List Text) = (id, tests) ∷ [] in
    let new : List (Text × List Text) = (id, tests ++ test ∷ []) ∷ [] in
    let same : ids_of_groups (front ++ old) ≡ ids_of_groups (front ++ new) = map-append (λ g. g.0) front old ∙ sym (map-append (λ g. g.0) front new) in
    let size = length_push tests test in
    record {
      whole =
          flat_map-append pairs_of front new
          ∙ ap (λ ps. flat_map pairs_of front ++ ps) (append-nil (map (λ t. (id, t)) (tests ++ test ∷ [])) ∙ map-append (λ t. (id, t)) tests (test ∷ []))
          ∙ sym (append_assoc (flat_map pairs_of front) (map (λ t. (id, t)) tests) ((id, test) ∷ []))
          ∙ ap (λ ps. ps ++ (id, test) ∷ []) (ap (λ ps. flat_map pairs_of front ++ ps) (sym (append-nil (map (λ t. (id, t)) tests))) ∙ sym (flat_map-append pairs_of front old) ∙ was.whole);
      filled = All-push (λ g. 0 < length g.1) front (id, tests ++ test ∷ []) (front_filled (λ g. 0 < length g.1) front old was.filled) (omega arith);
      apart = subst (λ ids. AllAdjacentBelow (λ a b. a ≢ b) ids (length ids)) same was.apart;
    }

-- where the last of a list differs from one more element, no two neighbours are the same
apart_more : (ids : List Text) (id : Text) → AllAdjacentBelow (λ a b. a ≢ b) ids (length ids) → ((i : ℕ) (d : Text) → i + 1 ≡ length ids → get_or ids i d ≢ id) → AllAdjacentBelow (λ a b. a ≢ b) (ids ++ id ∷ []) (length (ids ++ id ∷ []))
apart_more ids id apart other k d lt =
    let size = length_push ids id in
    let here = get_or_append_left ids (id ∷ []) d k (omega arith) in
    ⊎_elim
    (λ within. rw (here, get_or_append_left ids (id ∷ []) d (k + 1) within) (apart k d within))
    (λ at.
    let last : k + 1 ≡ length ids = omega arith in
    let first : k + 1 - length ids ≡ 0 = omega arith in
    let next : get_or (ids ++ id ∷ []) (k + 1) d ≡ id = get_or-append_right ids (id ∷ []) (length ids) (k + 1) d refl (omega arith) ∙ ap (λ n. get_or (id ∷ []) n d) first in
    rw (here, next) (other k d last))
    (cases_lt (k + 1) (length ids))

-- where no group of this id is the last, the last of the ids differs from it
other_last : (groups : List (Text × List Text)) (id : Text) → (IsOfLast groups id → ⊥) → (i : ℕ) (d : Text) → i + 1 ≡ length (ids_of_groups groups) → get_or (ids_of_groups groups) i d ≢ id
other_last groups id none i d last same =
    let size = length-map groups (λ (g : Text × List Text). g.0) in
    let at : i + 1 ≡ length groups = omega arith in
    let g = get_or groups i (d, []) in
    let is : g.0 ≡ id = sym (get_or-map (λ (x : Text × List Text). x.0) groups i (d, []) d (omega arith)) ∙ same in
    none (take i groups, g.1, ends_so groups i at (d, []) ∙ ap (λ (x : Text). take i groups ++ (x, g.1) ∷ []) is)

-- a test in a group of its own behind the others
pub opened : (pairs : List (Text × Text)) (groups : List (Text × List Text)) (id test : Text) → (IsOfLast groups id → ⊥) → IsByBinary pairs groups → IsByBinary (pairs ++ (id, test) ∷ []) (groups ++ (id, test ∷ []) ∷ [])
opened pairs groups id test none was =
    let ids = ids_of_groups groups in
    let grown : ids_of_groups (groups ++ (id, test ∷ []) ∷ []) ≡ ids ++ id ∷ [] = map-append (λ g. g.0) groups ((id, test ∷ []) ∷ []) in
    record {
      whole = flat_map-append pairs_of groups ((id, test ∷ []) ∷ []) ∙ ap (λ ps. ps ++ (id, test) ∷ []) was.whole;
      filled = All-push (λ g. 0 < length g.1) groups (id, test ∷ []) was.filled (omega arith);
      apart = subst (λ xs. AllAdjacentBelow (λ a b. a ≢ b) xs (length xs)) (sym grown) (apart_more ids id was.apart (other_last groups id none));
    }

-- a test in the last group, where that is of its binary
pub joined : (pairs : List (Text × Text)) (groups : List (Text × List Text)) (i : ℕ) (id : Text) (tests : List Text) (test : Text) → i + 1 ≡ length groups → get_or groups i (id, tests) ≡ (id, tests) → IsByBinary pairs groups → IsByBinary (pairs ++ (id, test) ∷ []) (set groups i (id, tests ++ test ∷ []))
joined pairs groups i id tests test last is was =
    let old : groups ≡ take i groups ++ (id, tests) ∷ [] = ends_so groups i last (id, tests) ∙ ap (λ g. take i groups ++ g ∷ []) is in
    subst (IsByBinary (pairs ++ (id, test) ∷ [])) (sym (set_last groups i last (id, tests ++ test ∷ []))) (added_last pairs (take i groups) id tests test (subst (IsByBinary pairs) old was))

-- the last group, where one of this id is the last
pub last_group : (groups : List (Text × List Text)) (i : ℕ) (id : Text) (d : Text × List Text) → IsOfLast groups id → i + 1 ≡ length groups → (get_or groups i d).0 ≡ id
last_group groups i id d h last =
    let size = length_push h.0 (id, h.1) in
    let whole : length groups ≡ length (h.0 ++ (id, h.1) ∷ []) = ap length h.2 in
    let at : i ≡ length h.0 = omega arith in
    let here : length h.0 ≤ length h.0 = omega arith in
    ap (λ (g : Text × List Text). g.0) (ap (λ gs. get_or gs i d) h.2 ∙ ap (λ n. get_or (h.0 ++ (id, h.1) ∷ []) n d) at ∙ get_or-append_right h.0 ((id, h.1) ∷ []) (length h.0) (length h.0) d refl here ∙ ap (λ n. get_or ((id, h.1) ∷ []) n d) (sub_self (length h.0)))

-- where there is a last group, there is one
pub some_last : (items : List (String Global × Vec (String Global) Global)) (id : Text) → IsOfLast (map group_of items) id → 0 < length items
some_last items id h =
    let size = length_push h.0 (id, h.1) in
    let shown = length-map items group_of in
    let whole = ap length h.2 in
    omega arith

-- the last of groups of strings, as texts
module _ (items : List (String Global × Vec (String Global) Global)) (i : ℕ) (last : String Global × Vec (String Global) Global) (end : i + 1 ≡ length items) (is : last ≡ get_or items i last) where
  sized : i + 1 ≡ length (map group_of items)
  sized = end ∙ sym (length-map items group_of)

  shown_last : get_or (map group_of items) i (group_of last) ≡ group_of last
  shown_last = get_or-map group_of items i last (group_of last) (omega arith) ∙ ap group_of (sym is)

  pub tells_last : (id : String Global) (b : Bool) → b ≡ string_eq last.0 id → IsTrue b ↔ IsOfLast (map group_of items) (string_bytes id)
  tells_last id b test = (
    λ h.
        let same : string_bytes last.0 ≡ string_bytes id = (bytes_eq-Decides (string_bytes last.0) (string_bytes id)).0 (sym test ∙ h) in
        (take i (map group_of items), (group_of last).1, ends_so (map group_of items) i sized (group_of last) ∙ ap (λ g. take i (map group_of items) ++ g ∷ []) (shown_last ∙ ap (λ (t : Text). (t, (group_of last).1)) same)),
    λ h.
        let same : string_bytes last.0 ≡ string_bytes id = sym (ap (λ (g : Text × List Text). g.0) shown_last) ∙ last_group (map group_of items) i (string_bytes id) (group_of last) h sized in
        test ∙ (bytes_eq-Decides (string_bytes last.0) (string_bytes id)).1 same,
  )

  pub grown : (pairs : List (Text × Text)) (tests : Vec (String Global) Global) (id test : String Global) → tests.items ≡ last.1.items ++ test ∷ [] → IsOfLast (map group_of items) (string_bytes id) → IsByBinary pairs (map group_of items) → IsByBinary (pairs ++ (string_bytes id, string_bytes test) ∷ []) (map group_of (set items i (last.0, tests)))
  grown pairs tests id test more of_last was =
      let groups = map group_of items in
      let old = (group_of last).1 in
      let same : string_bytes last.0 ≡ string_bytes id = sym (ap (λ (g : Text × List Text). g.0) shown_last) ∙ last_group groups i (string_bytes id) (group_of last) of_last sized in
      let new : texts tests.items ≡ old ++ string_bytes test ∷ [] = ap texts more ∙ map-append string_bytes last.1.items (test ∷ []) in
      let written : map group_of (set items i (last.0, tests)) ≡ set groups i (string_bytes id, old ++ string_bytes test ∷ []) = map-set group_of items i (last.0, tests) ∙ (λ k. set groups i (same k, new k)) in
      let at : get_or groups i (string_bytes id, old) ≡ (string_bytes id, old) = subst (λ (t : Text). get_or groups i (t, old) ≡ (t, old)) same shown_last in
      subst (IsByBinary (pairs ++ (string_bytes id, string_bytes test) ∷ [])) (sym written) (joined pairs groups i (string_bytes id) old (string_bytes test) sized at was)

-- what stands behind others ascends where all do, and what stands before them
module _ {A : Type 0} (cmp : A → A → Ordering) where
  sorted_back : (xs ys : List A) → IsStrictlySortedBy cmp (xs ++ ys) → IsStrictlySortedBy cmp ys
  unfolding IsStrictlySortedBy
  sorted_back [] ys h = h
  sorted_back (x ∷ xs) ys h = sorted_back xs ys h.1

  below_front : (x : A) (xs ys : List A) → AllByRecursion (λ y. cmp x y ≡ Less) (xs ++ ys) → AllByRecursion (λ y. cmp x y ≡ Less) xs
  below_front x [] ys h = tt
  below_front x (y ∷ xs) ys h = (h.0, below_front x xs ys h.1)

  sorted_front : (xs ys : List A) → IsStrictlySortedBy cmp (xs ++ ys) → IsStrictlySortedBy cmp xs
  unfolding IsStrictlySortedBy
  sorted_front [] ys h = tt
  sorted_front (x ∷ xs) ys h = (below_front x xs ys h.0, sorted_front xs ys h.1)

  below_later : (x y : A) (xs ys : List A) → IsStrictlySortedBy cmp (x ∷ (xs ++ y ∷ ys)) → cmp x y ≡ Less
  unfolding IsStrictlySortedBy
  below_later x y xs ys h = All-contains (λ z. cmp x z ≡ Less) (xs ++ y ∷ ys) y (All-from_recursion (λ z. cmp x z ≡ Less) (xs ++ y ∷ ys) h.0) (Contains-append_right xs (y ∷ ys) y (Contains-first y ys))

-- pairs with one first text ascend by their second ones
under_one : (id : Text) (tests : List Text) → IsStrictlySortedBy pair_cmp (map (λ t. (id, t)) tests) → IsStrictlySortedBy text_cmp tests
unfolding IsStrictlySortedBy
under_one id [] h = tt
under_one id (t ∷ ts) h = (each ts h.0, under_one id ts h.1)
  where
    tied : text_cmp id id ≡ Equal
    tied = tied_itself text_total id

    each : (us : List Text) → AllByRecursion (λ y. pair_cmp (id, t) y ≡ Less) (map (λ u. (id, u)) us) → AllByRecursion (λ u. text_cmp t u ≡ Less) us
    each [] below = tt
    each (u ∷ us) below = (ap (λ o. ordering_then o (text_cmp t u)) (sym tied) ∙ below.0, each us below.1)

-- of two pairs that ascend, whose first texts differ, the first texts do
firsts_ascend : (a b t u : Text) → a ≢ b → pair_cmp (a, t) (b, u) ≡ Less → text_cmp a b ≡ Less
firsts_ascend a b t u apart h = by (text_cmp a b) refl h
  where
    by : (o : Ordering) → text_cmp a b ≡ o → ordering_then o (text_cmp t u) ≡ Less → text_cmp a b ≡ Less
    by Less e below = e
    by Equal e below = absurd (apart (text_exact a b e))
    by Greater e below = absurd (cc below)

-- of two neighbours the ids ascend, where the tests do
first_two : (g h : Text × List Text) (groups : List (Text × List Text)) → IsStrictlySortedBy pair_cmp (flat_map pairs_of (g ∷ h ∷ groups)) → 0 < length g.1 → 0 < length h.1 → g.0 ≢ h.0 → text_cmp g.0 h.0 ≡ Less
first_two (id, []) h groups sorted one other apart = absurd (omega arith)
first_two (id, t ∷ ts) (next, []) groups sorted one other apart = absurd (omega arith)
first_two (id, t ∷ ts) (next, u ∷ us) groups sorted one other apart =
    firsts_ascend id next t u apart (below_later pair_cmp (id, t) (next, u) (map (λ x. (id, x)) ts) (map (λ x. (next, x)) us ++ flat_map pairs_of groups) sorted)

neighbours : (groups : List (Text × List Text)) (k : ℕ) (d : Text) → k + 1 < length (ids_of_groups groups) → IsStrictlySortedBy pair_cmp (flat_map pairs_of groups) → All (λ g. 0 < length g.1) groups → get_or (ids_of_groups groups) k d ≢ get_or (ids_of_groups groups) (k + 1) d → text_cmp (get_or (ids_of_groups groups) k d) (get_or (ids_of_groups groups) (k + 1) d) ≡ Less
neighbours [] k d lt sorted filled apart = absurd (omega arith)
neighbours (g ∷ []) k d lt sorted filled apart = absurd (omega arith)
neighbours (g ∷ h ∷ groups) zero d lt sorted filled apart =
    first_two g h groups sorted (All-head (λ x. 0 < length x.1) g (h ∷ groups) filled) (All-head (λ x. 0 < length x.1) h groups (All-tail (λ x. 0 < length x.1) g (h ∷ groups) filled)) apart
neighbours (g ∷ h ∷ groups) (suc k) d lt sorted filled apart =
    let next : suc k + 1 ≡ suc (k + 1) = omega arith in
    let at : (n : ℕ) → n ≡ suc (k + 1) → get_or (ids_of_groups (g ∷ h ∷ groups)) n d ≡ get_or (ids_of_groups (h ∷ groups)) (k + 1) d = λ n e. ap (λ m. get_or (ids_of_groups (g ∷ h ∷ groups)) m d) e in
    ap (text_cmp (get_or (ids_of_groups (h ∷ groups)) k d)) (at (suc k + 1) next) ∙ neighbours (h ∷ groups) k d (omega arith) (sorted_back pair_cmp (pairs_of g) (flat_map pairs_of (h ∷ groups)) sorted) (All-tail (λ x. 0 < length x.1) g (h ∷ groups) filled) (λ same. apart (same ∙ sym (at (suc k + 1) next)))

tests_ascend : (groups : List (Text × List Text)) → IsStrictlySortedBy pair_cmp (flat_map pairs_of groups) → All (λ g. IsStrictlySortedBy text_cmp g.1) groups
tests_ascend [] sorted = All-nil (λ g. IsStrictlySortedBy text_cmp g.1)
tests_ascend (g ∷ groups) sorted =
    All-cons (λ x. IsStrictlySortedBy text_cmp x.1) g groups (under_one g.0 g.1 (sorted_front pair_cmp (pairs_of g) (flat_map pairs_of groups) sorted)) (tests_ascend groups (sorted_back pair_cmp (pairs_of g) (flat_map pairs_of groups) sorted))

ids_ascend : (groups : List (Text × List Text)) → IsStrictlySortedBy pair_cmp (flat_map pairs_of groups) → All (λ g. 0 < length g.1) groups → AllAdjacentBelow (λ a b. a ≢ b) (ids_of_groups groups) (length (ids_of_groups groups)) → IsStrictlySortedBy text_cmp (ids_of_groups groups)
ids_ascend groups sorted filled apart = sorted_from_all_adjacent text_total (ids_of_groups groups) [] (λ k lt. neighbours groups k [] lt sorted filled (apart k [] lt))

-- what is grouped is in the group of its binary
in_groups : (groups : List (Text × List Text)) (pair : Text × Text) → Contains (flat_map pairs_of groups) pair ↔ ((group : Text × List Text) × Contains groups group × (group.0 ≡ pair.0) × Contains group.1 pair.1)
in_groups groups pair = (
  λ h.
      let found = Contains-flat_map_cases pairs_of groups pair h in
      let test = Contains-map_cases (λ t. (found.0.0, t)) found.0.1 pair found.2 in
      (found.0, found.1, ap (λ (p : Text × Text). p.0) test.2, subst (Contains found.0.1) (ap (λ (p : Text × Text). p.1) test.2) test.1),
  λ h.
      let inside : Contains (pairs_of h.0) (h.0.0, pair.1) = Contains-map (λ t. (h.0.0, t)) h.0.1 pair.1 h.3 in
      Contains-flat_map pairs_of groups h.0 pair h.1 (subst (λ (id : Text). Contains (pairs_of h.0) (id, pair.1)) h.2 inside),
)

pub groups_of_ascending : (pairs : List (Text × Text)) (groups : List (Text × List Text)) → IsStrictlySortedBy pair_cmp pairs → IsByBinary pairs groups → AreAscendingGroups pairs groups
groups_of_ascending pairs groups ascend by =
    let sorted = subst (IsStrictlySortedBy pair_cmp) (sym by.whole) ascend in
    record {
      ids = ids_ascend groups sorted by.filled by.apart;
      tests = tests_ascend groups sorted;
      members = λ pair. subst (λ ps. Contains ps pair ↔ ((group : Text × List Text) × Contains groups group × (group.0 ≡ pair.0) × Contains group.1 pair.1)) by.whole (in_groups groups pair);
    }
