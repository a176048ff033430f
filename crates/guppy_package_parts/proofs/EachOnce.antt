-- Names put in ascending order, each once: their first, and the part after one of them.
use Rattle.std.proofs.Common.{◌≡◌, ℕ, ◌+◌, ◌<◌, length, get_or, take, String, Global, string_bytes, Bool, true, false, cond, ◌&&◌, List, [], ◌∷◌, ◌++◌, filter, Option, None, Some, refl, sym, ◌∙◌, ap, subst, inl, inr, ⊎_elim, ◌⊎◌, Contains, ◌↔◌, Ordering, Less, Equal, Greater}
use Rattle.std.specs.BTreeSet.{insert_key}
use Rattle.std.specs.List.{AllByRecursion}
use Rattle.std.specs.List.Sorted.{IsStrictlySortedBy}
use Rattle.std.specs.Ordering.{is_lt, match_ordering, ordering_reverse}
use Rattle.std.proofs.lemmas.List.Kept.{IsStrictlySortedBy-filter}
use Rattle.list_facts.specs.Ascending.{IsAscendingOf, text_cmp}
use Rattle.list_facts.proofs.Ascending.{Contains-insert_key, Contains-insert_key_cases, text_exact, text_total}
use Rattle.list_facts.proofs.Membership.{Contains-cons_cases, Contains-first, Contains-none, Contains-rest}
use Rattle.std.proofs.lemmas.List.{map-append, take_more}
use Rattle.list_facts.proofs.Lists.{filter-append, filter-filter, flat_map-append}
use Rattle.list_facts.specs.Texts.{texts}
use Rattle.workspace_record.specs.Records.{Text, Line}
use Rattle.guppy_package_parts.specs.Names.{each_once, is_above, listed, lower, lower_above, lowest_from, put_among}

-- the first, if there is one
abbrev pub first : List Text → Option Text
first [] = None
first (x ∷ xs) = Some x

first_placed : (o : Ordering) (x y : Text) (ks js : List Text) → first (match_ordering o (x ∷ y ∷ ks) (y ∷ ks) (y ∷ js)) ≡ cond (is_lt o) (Some x) (Some y)
first_placed Less x y ks js = refl
first_placed Equal x y ks js = refl
first_placed Greater x y ks js = refl

first-insert_key : (ks : List Text) (x : Text) → first (insert_key text_cmp ks x) ≡ lower (first ks) x
first-insert_key [] x = refl
first-insert_key (y ∷ ks) x = first_placed (text_cmp x y) x y ks (insert_key text_cmp ks x)

-- the first of the names put among others is the lowest of all
pub first-put_among : (ks xs : List Text) → first (put_among ks xs) ≡ lowest_from (first ks) xs
first-put_among ks [] = refl
first-put_among ks (x ∷ xs) = first-put_among (insert_key text_cmp ks x) xs ∙ ap (λ o. lowest_from o xs) (first-insert_key ks x)

-- a test that passes whatever is not below what passes
module _ (p : Text → Bool) (up : (x y : Text) → p x ≡ true → text_cmp x y ≡ Less → p y ≡ true) where
  same_passes : (x y : Text) → text_cmp x y ≡ Equal → p x ≡ p y
  same_passes x y e = ap p (text_exact x y e)

  kept_placed : (x y : Text) (ks : List Text) (o : Ordering) → text_cmp x y ≡ o → (b : Bool) → p x ≡ b → (c : Bool) → p y ≡ c → filter p (insert_key text_cmp ks x) ≡ cond b (insert_key text_cmp (filter p ks) x) (filter p ks) → filter p (match_ordering o (x ∷ y ∷ ks) (y ∷ ks) (y ∷ insert_key text_cmp ks x)) ≡ cond b (insert_key text_cmp (cond c (y ∷ filter p ks) (filter p ks)) x) (cond c (y ∷ filter p ks) (filter p ks))
  kept_placed x y ks Less e true px true py rest = rw (px, py, e)
  kept_placed x y ks Less e true px false py rest = cc (up x y px e)
  kept_placed x y ks Less e false px true py rest = rw (px, py)
  kept_placed x y ks Less e false px false py rest = rw (px, py)
  kept_placed x y ks Equal e true px true py rest = rw (py, e)
  kept_placed x y ks Equal e true px false py rest = cc (same_passes x y e)
  kept_placed x y ks Equal e false px true py rest = rw py
  kept_placed x y ks Equal e false px false py rest = rw py
  kept_placed x y ks Greater e true px true py rest = rw (py, rest, e)
  kept_placed x y ks Greater e true px false py rest = rw (py, rest)
  kept_placed x y ks Greater e false px true py rest = rw (py, rest)
  kept_placed x y ks Greater e false px false py rest = rw (py, rest)

  filter-insert_key : (ks : List Text) (x : Text) → filter p (insert_key text_cmp ks x) ≡ cond (p x) (insert_key text_cmp (filter p ks) x) (filter p ks)
  filter-insert_key [] x = refl
  filter-insert_key (y ∷ ks) x = kept_placed x y ks (text_cmp x y) refl (p x) refl (p y) refl (filter-insert_key ks x)

  put_kept : (ks xs : List Text) (x : Text) (b : Bool) → put_among (cond b (insert_key text_cmp ks x) ks) xs ≡ put_among ks (cond b (x ∷ xs) xs)
  put_kept ks xs x true = refl
  put_kept ks xs x false = refl

  filter-put_among : (ks xs : List Text) → filter p (put_among ks xs) ≡ put_among (filter p ks) (filter p xs)
  filter-put_among ks [] = refl
  filter-put_among ks (x ∷ xs) =
      filter-put_among (insert_key text_cmp ks x) xs ∙ ap (λ js. put_among js (filter p xs)) (filter-insert_key ks x) ∙ put_kept (filter p ks) (filter p xs) x (p x)

and_false : (b : Bool) → (b && false) ≡ false
and_false true = refl
and_false false = refl

below-trans : (x y : Text) (ks : List Text) → text_cmp x y ≡ Less → AllByRecursion (λ z. text_cmp y z ≡ Less) ks → AllByRecursion (λ z. text_cmp x z ≡ Less) ks
below-trans x y [] e h = h
below-trans x y (z ∷ ks) e h = (text_total.trans x y z e h.0, below-trans x y ks e h.1)

below_placed : (y x z : Text) (ks js : List Text) (o : Ordering) → text_cmp y x ≡ Less → AllByRecursion (λ w. text_cmp y w ≡ Less) (z ∷ ks) → AllByRecursion (λ w. text_cmp y w ≡ Less) js → AllByRecursion (λ w. text_cmp y w ≡ Less) (match_ordering o (x ∷ z ∷ ks) (z ∷ ks) (z ∷ js))
below_placed y x z ks js Less e h more = (e, h)
below_placed y x z ks js Equal e h more = h
below_placed y x z ks js Greater e h more = (h.0, more)

below-insert_key : (y x : Text) (ks : List Text) → text_cmp y x ≡ Less → AllByRecursion (λ w. text_cmp y w ≡ Less) ks → AllByRecursion (λ w. text_cmp y w ≡ Less) (insert_key text_cmp ks x)
below-insert_key y x [] e h = (e, h)
below-insert_key y x (z ∷ ks) e h = below_placed y x z ks (insert_key text_cmp ks x) (text_cmp x z) e h (below-insert_key y x ks e h.1)

sorted_placed : (x y : Text) (ks : List Text) (o : Ordering) → text_cmp x y ≡ o → IsStrictlySortedBy text_cmp (y ∷ ks) → IsStrictlySortedBy text_cmp (insert_key text_cmp ks x) → IsStrictlySortedBy text_cmp (match_ordering o (x ∷ y ∷ ks) (y ∷ ks) (y ∷ insert_key text_cmp ks x))
unfolding IsStrictlySortedBy
sorted_placed x y ks Less e s t = ((e, below-trans x y ks e s.0), s)
sorted_placed x y ks Equal e s t = s
sorted_placed x y ks Greater e s t = (below-insert_key y x ks (text_total.antisymm y x ∙ ap ordering_reverse e) s.0, t)

sorted-insert_key : (ks : List Text) (x : Text) → IsStrictlySortedBy text_cmp ks → IsStrictlySortedBy text_cmp (insert_key text_cmp ks x)
unfolding IsStrictlySortedBy
sorted-insert_key [] x s = (tt, tt)
sorted-insert_key (y ∷ ks) x s = sorted_placed x y ks (text_cmp x y) refl s (sorted-insert_key ks x s.1)

sorted-put_among : (ks xs : List Text) → IsStrictlySortedBy text_cmp ks → IsStrictlySortedBy text_cmp (put_among ks xs)
sorted-put_among ks [] s = s
sorted-put_among ks (x ∷ xs) s = sorted-put_among (insert_key text_cmp ks x) xs (sorted-insert_key ks x s)

none_sorted : IsStrictlySortedBy text_cmp []
unfolding IsStrictlySortedBy
none_sorted = tt

below_first : (m : Text) (rest : List Text) → IsStrictlySortedBy text_cmp (m ∷ rest) → AllByRecursion (λ z. text_cmp m z ≡ Less) rest
unfolding IsStrictlySortedBy
below_first m rest s = s.0

less_from_test : (o : Ordering) → is_lt o ≡ true → o ≡ Less
less_from_test Less h = refl
less_from_test Equal h = cc
less_from_test Greater h = cc

-- what is above a name above the last one is above it too
above_up : (last : Option Text) (x y : Text) → is_above last x ≡ true → text_cmp x y ≡ Less → is_above last y ≡ true
above_up None x y h e = refl
above_up (Some last) x y h e = ap is_lt (text_total.trans last x y (less_from_test (text_cmp last x) h) e)

not_below_itself : (o : Ordering) → o ≡ ordering_reverse o → is_lt o ≡ false
not_below_itself Less e = cc
not_below_itself Equal e = refl
not_below_itself Greater e = refl

module _ (p : Text → Bool) (m : Text) (rest : List Text) where
  passes_at : (y : Text) (ks : List Text) (b : Bool) → p y ≡ b → (filter p ks ≡ m ∷ rest → p m ≡ true) → cond b (y ∷ filter p ks) (filter p ks) ≡ m ∷ rest → p m ≡ true
  passes_at y ks true py more e = let same : y ≡ m = cc in sym (ap p same) ∙ py
  passes_at y ks false py more e = more e

  first_passes : (ks : List Text) → filter p ks ≡ m ∷ rest → p m ≡ true
  first_passes [] e = cc
  first_passes (y ∷ ks) e = passes_at y ks (p y) refl (first_passes ks) e

all_above : (m : Text) (ks : List Text) → AllByRecursion (λ z. text_cmp m z ≡ Less) ks → filter (is_above (Some m)) ks ≡ ks
all_above m [] h = refl
all_above m (z ∷ ks) h =
    ap (λ o. cond (is_lt o) (z ∷ filter (is_above (Some m)) ks) (filter (is_above (Some m)) ks)) h.0 ∙ ap (λ js. z ∷ js) (all_above m ks h.1)

module _ (last : Option Text) (m : Text) (passes : is_above last m ≡ true) where
  both_above : (x : Text) (b : Bool) → is_above (Some m) x ≡ b → (is_above last x && b) ≡ b
  both_above x true e = ap (λ c. c && true) (above_up last m x passes (less_from_test (text_cmp m x) e))
  both_above x false e = and_false (is_above last x)

  above_both : (ks : List Text) → filter (is_above (Some m)) (filter (is_above last) ks) ≡ filter (is_above (Some m)) ks
  above_both ks =
      filter-filter (is_above (Some m)) (is_above last) ks ∙ ap (λ (t : Text → Bool). filter t ks) (λ i x. both_above x (is_above (Some m) x) refl i)

-- in an ascending list, what is above the first one that is above the last is the rest
above_first : (last : Option Text) (ks : List Text) (m : Text) (rest : List Text) → IsStrictlySortedBy text_cmp ks → filter (is_above last) ks ≡ m ∷ rest → filter (is_above (Some m)) ks ≡ rest
above_first last ks m rest s e =
    let sorted : IsStrictlySortedBy text_cmp (m ∷ rest) = subst (IsStrictlySortedBy text_cmp) e (IsStrictlySortedBy-filter text_cmp (is_above last) ks s) in
    let itself : is_lt (text_cmp m m) ≡ false = not_below_itself (text_cmp m m) (text_total.antisymm m m) in
    sym (above_both last m (first_passes (is_above last) m rest ks e) ks) ∙ ap (filter (is_above (Some m))) e ∙ ap (λ b. cond b (m ∷ filter (is_above (Some m)) rest) (filter (is_above (Some m)) rest)) itself ∙ all_above m rest (below_first m rest sorted)

first_left : (last : Option Text) (names : List Text) → first (filter (is_above last) (each_once names)) ≡ lowest_from None (filter (is_above last) names)
first_left last names = ap first (filter-put_among (is_above last) (above_up last) [] names) ∙ first-put_among [] (filter (is_above last) names)

empty_from : (ys : List Text) → first ys ≡ None → ys ≡ []
empty_from [] e = refl
empty_from (y ∷ ys) e = cc

-- no name is above the last one
pub none_left : (last : Option Text) (names : List Text) → None ≡ lowest_from None (filter (is_above last) names) → filter (is_above last) (each_once names) ≡ []
none_left last names e = empty_from (filter (is_above last) (each_once names)) (first_left last names ∙ sym e)

split_from : (last : Option Text) (ks ys : List Text) (m : Text) → IsStrictlySortedBy text_cmp ks → filter (is_above last) ks ≡ ys → first ys ≡ Some m → ys ≡ m ∷ filter (is_above (Some m)) ks
split_from last ks [] m s e h = cc
split_from last ks (y ∷ ys) m s e h =
    let same : y ≡ m = cc in
    ap (λ z. z ∷ ys) same ∙ ap (λ zs. m ∷ zs) (sym (above_first last ks m ys s (e ∙ ap (λ z. z ∷ ys) same)))

-- the lowest name above the last one is the next, and the names above it are the others
pub next_left : (last : Option Text) (names : List Text) (m : Text) → Some m ≡ lowest_from None (filter (is_above last) names) → filter (is_above last) (each_once names) ≡ m ∷ filter (is_above (Some m)) (each_once names)
next_left last names m e =
    split_from last (each_once names) (filter (is_above last) (each_once names)) m (sorted-put_among [] names none_sorted) refl (first_left last names ∙ sym e)

-- the lowest of two lists
pub lowest_from-append : (least : Option Text) (xs ys : List Text) → lowest_from least (xs ++ ys) ≡ lowest_from (lowest_from least xs) ys
lowest_from-append least [] ys = refl
lowest_from-append least (x ∷ xs) ys = lowest_from-append (lower least x) xs ys

lowest_kept : (last least : Option Text) (x : Text) (b : Bool) → is_above last x ≡ b → lower_above last least x ≡ lowest_from least (cond b (x ∷ []) [])
lowest_kept last least x true e = ap (λ c. cond c (lower least x) least) e
lowest_kept last least x false e = ap (λ c. cond c (lower least x) least) e

-- one more name
pub lowest_from-more_names : (last least : Option Text) (names : List (String Global)) (i : ℕ) (name : String Global) → i < length names → name ≡ get_or names i name → lower_above last (lowest_from least (filter (is_above last) (texts (take i names)))) (string_bytes name) ≡ lowest_from least (filter (is_above last) (texts (take (i + 1) names)))
lowest_from-more_names last least names i name lt is =
    let parts : texts (take (i + 1) names) ≡ texts (take i names) ++ (string_bytes name ∷ []) = ap texts (take_more names i name lt) ∙ map-append string_bytes (take i names) (get_or names i name ∷ []) ∙ ap (λ n. texts (take i names) ++ (string_bytes n ∷ [])) (sym is) in
    lowest_kept last (lowest_from least (filter (is_above last) (texts (take i names)))) (string_bytes name) (is_above last (string_bytes name)) refl ∙ sym (lowest_from-append least (filter (is_above last) (texts (take i names))) (filter (is_above last) (string_bytes name ∷ []))) ∙ ap (lowest_from least) (sym (filter-append (is_above last) (texts (take i names)) (string_bytes name ∷ []))) ∙ ap (λ ts. lowest_from least (filter (is_above last) ts)) (sym parts)

-- one more line
pub lowest_from-more_lines : (last : Option Text) (p : Line → Bool) (lines : List Line) (i : ℕ) (line : Line) → i < length lines → line ≡ get_or lines i line → lowest_from (lowest_from None (filter (is_above last) (listed (filter p (take i lines))))) (filter (is_above last) (listed (filter p (line ∷ [])))) ≡ lowest_from None (filter (is_above last) (listed (filter p (take (i + 1) lines))))
lowest_from-more_lines last p lines i line lt is =
    let parts : take (i + 1) lines ≡ take i lines ++ (line ∷ []) = take_more lines i line lt ∙ ap (λ l. take i lines ++ (l ∷ [])) (sym is) in
    sym (lowest_from-append None (filter (is_above last) (listed (filter p (take i lines)))) (filter (is_above last) (listed (filter p (line ∷ []))))) ∙ ap (lowest_from None) (sym (filter-append (is_above last) (listed (filter p (take i lines))) (listed (filter p (line ∷ []))))) ∙ ap (λ ts. lowest_from None (filter (is_above last) ts)) (sym (flat_map-append (λ l. l.features) (filter p (take i lines)) (filter p (line ∷ [])))) ∙ ap (λ ls. lowest_from None (filter (is_above last) (listed ls))) (sym (filter-append p (take i lines) (line ∷ [])) ∙ ap (filter p) (sym parts))

-- what is put among others is there beside them, and nothing else
members_put : (ks xs : List Text) (x : Text) → Contains (put_among ks xs) x ↔ (Contains xs x ⊎ Contains ks x)
members_put ks [] x = (λ h. inr h, λ h. ⊎_elim (λ none. absurd (Contains-none x none)) (λ k. k) h)
members_put ks (y ∷ xs) x =
    let rest = members_put (insert_key text_cmp ks y) xs x in (
      λ h. ⊎_elim (λ later. inl (Contains-rest y xs x later)) (λ k. ⊎_elim (λ e. inl (subst (λ z. Contains (y ∷ xs) z) e (Contains-first y xs))) (λ before. inr before) (Contains-cons_cases y ks x (Contains-insert_key_cases text_total text_exact ks y x k))) (rest.0 h),
      λ h. rest.1 (⊎_elim (λ among. ⊎_elim (λ e. inr (Contains-insert_key text_total text_exact ks y x (subst (λ z. Contains (y ∷ ks) z) e (Contains-first y ks)))) (λ later. inl later) (Contains-cons_cases y xs x among)) (λ before. inr (Contains-insert_key text_total text_exact ks y x (Contains-rest y ks x before))) h),
    )

-- the names, each once, are their ascending list
pub each_once_ascends : (names : List Text) → IsAscendingOf text_cmp names (each_once names)
each_once_ascends names = record {
  members = λ x. (λ h. ⊎_elim (λ among. among) (λ none. absurd (Contains-none x none)) ((members_put [] names x).0 h), λ h. (members_put [] names x).1 (inl h));
  ascending = sorted-put_among [] names none_sorted;
}
