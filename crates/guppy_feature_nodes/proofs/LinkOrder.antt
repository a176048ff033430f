-- Links of lines that ascend: the link of a line is the last one that was seen, or a new one.
use Rattle.std.proofs.Common.{◌≡◌, ℕ, suc, zero, ◌+◌, ◌-◌, ◌<◌, ◌≤◌, Bool, true, false, cond, not, ◌||◌, List, [], ◌∷◌, ◌++◌, length, get_or, map, filter, Some, slice_get, nat_eq, take, drop, append-nil, if◌then◌else◌, Less, refl, sym, subst, ap, ◌∙◌, arith}
use Rattle.std.proofs.lemmas.Bool.{false≢true}
use Rattle.std.proofs.lemmas.Bool.Decides.{nat_tests}
use Rattle.std.proofs.lemmas.List.Elements.{filter-append}
use Rattle.std.specs.Cmp.{unsigned_Decides}
use Rattle.std.specs.List.{AllByRecursion, list_any}
use Rattle.std.specs.List.Sorted.{IsStrictlySortedBy}
use Rattle.workspace_record.specs.Equality.{equivalence}
use Rattle.indexmap.specs.IndexSet.{insert_key}
use Rattle.std.proofs.lemmas.List.{map-append, take_more}
use Rattle.guppy_feature_demands.specs.Nodes.{first_of_each}
use Rattle.guppy_feature_demands.proofs.FirstFacts.{any-without, first_of_each-push}
use Rattle.guppy_feature_nodes.specs.Joining.{place_cmp}

-- the list ends in n
abbrev pub EndsIn : ℕ → List ℕ → Type 0
EndsIn n ns = (front : List ℕ) × (ns ≡ front ++ n ∷ [])

last_at : (m n : ℕ) (ns : List ℕ) (k : ℕ) → length ns ≡ suc k → slice_get ns (length ns - 1) ≡ Some n → slice_get (m ∷ ns) (length (m ∷ ns) - 1) ≡ Some n
last_at m n ns k e h =
    let here : length ns - 1 ≡ k = omega (arith, e) in
    let there : length (m ∷ ns) - 1 ≡ suc k = omega (arith, e) in
    ap (slice_get (m ∷ ns)) there ∙ sym (ap (slice_get ns) here) ∙ h

longer : (front : List ℕ) (n : ℕ) → (k : ℕ) × (length (front ++ n ∷ []) ≡ suc k)
longer [] n = (0, refl)
longer (m ∷ front) n = (length (front ++ n ∷ []), refl)

pub last_of : (front : List ℕ) (n : ℕ) → slice_get (front ++ n ∷ []) (length (front ++ n ∷ []) - 1) ≡ Some n
last_of [] n = refl
last_of (m ∷ front) n = let long = longer front n in last_at m n (front ++ n ∷ []) long.0 long.1 (last_of front n)

first_below : (p q : ℕ × ℕ) → place_cmp p q ≡ Less → p.0 ≤ q.0
first_below p q h = grind (arith, nat_tests, h)

below_middle : (p : ℕ × ℕ) (ps : List (ℕ × ℕ)) (q : ℕ × ℕ) (more : List (ℕ × ℕ)) → AllByRecursion (λ y. place_cmp p y ≡ Less) (ps ++ q ∷ more) → p.0 ≤ q.0
below_middle p [] q more h = first_below p q h.0
below_middle p (x ∷ ps) q more h = below_middle p ps q more h.1

module _ (n : ℕ) where
  none_else : (ns : List ℕ) → AllByRecursion (λ m. m ≡ n) ns → filter (λ m. not (nat_eq n m)) ns ≡ []
  none_else [] h = refl
  none_else (m ∷ ns) h =
      ap (λ b. cond (not b) (m ∷ filter (λ k. not (nat_eq n k)) ns) (filter (λ k. not (nat_eq n k)) ns)) ((unsigned_Decides n m).1 (sym h.0)) ∙ none_else ns h.1

  alike_more : (b : Bool) (m : ℕ) (ns : List ℕ) → m ≡ n → AllByRecursion (λ k. k ≡ n) ns → AllByRecursion (λ k. k ≡ n) (cond b (m ∷ ns) ns)
  alike_more true m ns is rest = (is, rest)
  alike_more false m ns is rest = rest

  kept_alike : (p : ℕ → Bool) (ns : List ℕ) → AllByRecursion (λ m. m ≡ n) ns → AllByRecursion (λ m. m ≡ n) (filter p ns)
  kept_alike p [] h = h
  kept_alike p (m ∷ ns) h = alike_more (p m) m (filter p ns) h.0 (kept_alike p ns h.1)

  firsts_alike : (ns : List ℕ) → AllByRecursion (λ m. m ≡ n) ns → AllByRecursion (λ m. m ≡ n) (first_of_each nat_eq ns)
  firsts_alike [] h = h
  firsts_alike (m ∷ ns) h = (h.0, kept_alike (λ k. not (nat_eq m k)) (first_of_each nat_eq ns) (firsts_alike ns h.1))

get_or-any : {X : Type 0} (xs : List X) (i : ℕ) (d e : X) → i < length xs → get_or xs i d ≡ get_or xs i e
get_or-any [] i d e lt = absurd (omega (arith, lt))
get_or-any (x ∷ xs) zero d e lt = refl
get_or-any (x ∷ xs) (suc i) d e lt = get_or-any xs i d e (omega (arith, lt))

split_at : {X : Type 0} (xs : List X) (i : ℕ) (d : X) → i < length xs → take i xs ++ get_or xs i d ∷ drop (i + 1) xs ≡ xs
split_at [] i d lt = absurd (omega (arith, lt))
split_at (x ∷ xs) zero d lt = refl
split_at {X = X} (x ∷ xs) (suc i) d lt =
    let one : suc i + 1 ≡ suc (i + 1) = omega arith in
    ap (λ (k : ℕ). take (suc i) (x ∷ xs) ++ get_or xs i d ∷ drop k (x ∷ xs)) one ∙ ap (λ (ys : List X). x ∷ ys) (split_at xs i d (omega (arith, lt)))

abbrev links_in : (ℕ × ℕ → Bool) → List (ℕ × ℕ) → List ℕ
links_in test ps = map (λ x. x.0) (filter test ps)

linked_more : (n : ℕ) (b : Bool) (x : ℕ × ℕ) (ps : List (ℕ × ℕ)) → x.0 ≡ n → AllByRecursion (λ m. m ≡ n) (map (λ y. y.0) ps) → AllByRecursion (λ m. m ≡ n) (map (λ y. y.0) (cond b (x ∷ ps) ps))
linked_more n true x ps is rest = (is, rest)
linked_more n false x ps is rest = rest

-- lines between two of one link are of that link
between : (test : ℕ × ℕ → Bool) (p : ℕ × ℕ) (ps : List (ℕ × ℕ)) (q : ℕ × ℕ) (more : List (ℕ × ℕ)) → q.0 ≡ p.0 → AllByRecursion (λ y. place_cmp p y ≡ Less) (ps ++ q ∷ more) → IsStrictlySortedBy place_cmp (ps ++ q ∷ more) → AllByRecursion (λ m. m ≡ p.0) (links_in test ps)
unfolding IsStrictlySortedBy
between test p [] q more same below sorted = tt
between test p (x ∷ ps) q more same below sorted =
    let low = first_below p x below.0 in
    let high = below_middle x ps q more sorted.0 in
    let is : x.0 ≡ p.0 = omega (arith, low, high, same) in
    linked_more p.0 (test x) x (filter test ps) is (between test p ps q more same below.1 sorted.1)

-- of what ends in n a part that keeps n ends in it too
ends_kept : (p : ℕ → Bool) (n : ℕ) (ns : List ℕ) → p n ≡ true → EndsIn n ns → EndsIn n (filter p ns)
ends_kept p n ns keeps (front, is) =
    (filter p front, ap (filter p) is ∙ filter-append p front (n ∷ []) ∙ ap (λ b. filter p front ++ cond b (n ∷ []) []) keeps)

ends_more : (m n : ℕ) (ns : List ℕ) → EndsIn n ns → EndsIn n (m ∷ ns)
ends_more m n ns (front, is) = (m ∷ front, ap (λ xs. m ∷ xs) is)

module _ (test : ℕ × ℕ → Bool) where
  abbrev seen : List (ℕ × ℕ) → List ℕ
  seen ps = first_of_each nat_eq (links_in test ps)

  after : (x : ℕ × ℕ) (ps : List (ℕ × ℕ)) (q : ℕ × ℕ) (more : List (ℕ × ℕ)) → AllByRecursion (λ y. place_cmp x y ≡ Less) (ps ++ q ∷ more) → IsStrictlySortedBy place_cmp (ps ++ q ∷ more) → (list_any (nat_eq q.0) (seen ps) ≡ true → EndsIn q.0 (seen ps)) → (b : Bool) → nat_eq q.0 x.0 ≡ b → (b || list_any (nat_eq q.0) (filter (λ y. not (nat_eq x.0 y)) (seen ps))) ≡ true → EndsIn q.0 (x.0 ∷ filter (λ y. not (nat_eq x.0 y)) (seen ps))
  after x ps q more below sorted rest true e there =
      let same = (unsigned_Decides q.0 x.0).0 e in
      let alone = none_else x.0 (seen ps) (firsts_alike x.0 (links_in test ps) (between test x ps q more same below sorted)) in
      ([], ap (λ ns. x.0 ∷ ns) alone ∙ ap (λ n. n ∷ []) (sym same))
  after x ps q more below sorted rest false e there =
      let laws = equivalence unsigned_Decides in
      let apart : nat_eq x.0 q.0 ≡ false = laws.symm x.0 q.0 ∙ e in
      ends_more x.0 q.0 _ (ends_kept (λ y. not (nat_eq x.0 y)) q.0 (seen ps) (ap not apart) (rest (sym (any-without laws q.0 x.0 (seen ps) e) ∙ there)))

  by_test : (b : Bool) (x : ℕ × ℕ) (ps : List (ℕ × ℕ)) (q : ℕ × ℕ) (more : List (ℕ × ℕ)) → AllByRecursion (λ y. place_cmp x y ≡ Less) (ps ++ q ∷ more) → IsStrictlySortedBy place_cmp (ps ++ q ∷ more) → (list_any (nat_eq q.0) (seen ps) ≡ true → EndsIn q.0 (seen ps)) → list_any (nat_eq q.0) (first_of_each nat_eq (map (λ y. y.0) (cond b (x ∷ filter test ps) (filter test ps)))) ≡ true → EndsIn q.0 (first_of_each nat_eq (map (λ y. y.0) (cond b (x ∷ filter test ps) (filter test ps))))
  by_test true x ps q more below sorted rest there = after x ps q more below sorted rest (nat_eq q.0 x.0) refl there
  by_test false x ps q more below sorted rest there = rest there

  -- a link that was seen among the lines before one of its own was seen last
  pub seen_last : (ps : List (ℕ × ℕ)) (q : ℕ × ℕ) (more : List (ℕ × ℕ)) → IsStrictlySortedBy place_cmp (ps ++ q ∷ more) → list_any (nat_eq q.0) (seen ps) ≡ true → EndsIn q.0 (seen ps)
  unfolding IsStrictlySortedBy
  seen_last [] q more sorted there = absurd (false≢true there)
  seen_last (x ∷ ps) q more sorted there = by_test (test x) x ps q more sorted.0 sorted.1 (seen_last ps q more sorted.1) there

  seen_by : (b : Bool) (ps : List (ℕ × ℕ)) (q : ℕ × ℕ) (old new : List ℕ) → old ≡ seen ps → new ≡ (if b then insert_key nat_eq old q.0 else old) → new ≡ first_of_each nat_eq (map (λ y. y.0) (filter test ps ++ cond b (q ∷ []) []))
  seen_by true ps q old new before is =
      is ∙ ap (λ ns. insert_key nat_eq ns q.0) before ∙ sym (first_of_each-push (equivalence unsigned_Decides) (links_in test ps) q.0) ∙ ap (first_of_each nat_eq) (sym (map-append (λ y. y.0) (filter test ps) (q ∷ [])))
  seen_by false ps q old new before is =
      is ∙ before ∙ ap (λ xs. first_of_each nat_eq (map (λ y. y.0) xs)) (sym (append-nil (filter test ps)))

  -- one line more
  pub seen_more : (ps : List (ℕ × ℕ)) (i : ℕ) (q : ℕ × ℕ) → i < length ps → q ≡ get_or ps i q → (old new : List ℕ) → old ≡ seen (take i ps) → new ≡ (if test q then insert_key nat_eq old q.0 else old) → new ≡ seen (take (i + 1) ps)
  seen_more ps i q lt is old new before pushed =
      seen_by (test q) (take i ps) q old new before pushed ∙ ap (λ xs. first_of_each nat_eq (map (λ y. y.0) xs)) (sym (filter-append test (take i ps) (q ∷ [])) ∙ ap (filter test) (ap (λ x. take i ps ++ x ∷ []) is ∙ sym (take_more ps i q lt)))

  -- a link that was seen among the lines before a place of its own was seen last
  pub last_at_place : (ps : List (ℕ × ℕ)) (i : ℕ) (q : ℕ × ℕ) → i < length ps → q ≡ get_or ps i q → IsStrictlySortedBy place_cmp ps → (ns : List ℕ) → ns ≡ seen (take i ps) → list_any (nat_eq q.0) ns ≡ true → slice_get ns (length ns - 1) ≡ Some q.0
  last_at_place ps i q lt is sorted ns are there =
      let whole : take i ps ++ q ∷ drop (i + 1) ps ≡ ps = ap (λ x. take i ps ++ x ∷ drop (i + 1) ps) is ∙ split_at ps i q lt in
      let ends = seen_last (take i ps) q (drop (i + 1) ps) (subst (IsStrictlySortedBy place_cmp) (sym whole) sorted) (ap (list_any (nat_eq q.0)) (sym are) ∙ there) in
      let here = are ∙ ends.1 in
      ap (λ (ms : List ℕ). slice_get ms (length ms - 1)) here ∙ last_of ends.0 q.0

  -- the same of the line that stands at a place
  pub seen_next : (ps : List (ℕ × ℕ)) (i : ℕ) (d : ℕ × ℕ) → i < length ps → (old new : List ℕ) → old ≡ seen (take i ps) → new ≡ (if test (get_or ps i d) then insert_key nat_eq old (get_or ps i d).0 else old) → new ≡ seen (take (i + 1) ps)
  seen_next ps i d lt old new before pushed = seen_more ps i (get_or ps i d) lt (get_or-any ps i d (get_or ps i d) lt) old new before pushed

  -- and of one that was seen before
  pub last_of_place : (ps : List (ℕ × ℕ)) (i : ℕ) (d : ℕ × ℕ) → i < length ps → IsStrictlySortedBy place_cmp ps → (ns : List ℕ) → ns ≡ seen (take i ps) → list_any (nat_eq (get_or ps i d).0) ns ≡ true → slice_get ns (length ns - 1) ≡ Some (get_or ps i d).0
  last_of_place ps i d lt sorted ns are there = last_at_place ps i (get_or ps i d) lt (get_or-any ps i d (get_or ps i d) lt) sorted ns are there
