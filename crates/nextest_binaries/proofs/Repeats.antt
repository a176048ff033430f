-- Texts seen one after another, until one was seen before.
use Rattle.std.proofs.Common.{◌≡◌, ◌≢◌, ℕ, ◌+◌, ◌<◌, Bool, true, false, List, [], ◌∷◌, ◌++◌, length, get_or, take, map, refl, sym, ◌∙◌, ap, subst, ◌⊎◌, ⊎_elim, arith, Contains, cond, length-take, get_or-take, not, String, Global, string_bytes, Bor, is_ge, true≢false}
use Rattle.std.specs.List.{list_any}
use Rattle.std.specs.List.Sorted.{IsStrictlySortedBy}
use Rattle.std.specs.Str.{bytes_eq}
use Rattle.std.specs.String.{string_cmp}
use Rattle.std.specs.declared.cmp.Ordering.TheVariants.{Less}
use Rattle.std.proofs.lemmas.List.{get_or_append_left, get_or_push, get_or_default, length_push, length-map, take-map, get_or-map, map-append}
use Rattle.std.proofs.lemmas.Slice.Eq.{bytes_eq-Decides}
use Rattle.std.proofs.lemmas.Map.Keys.{Less-from_sorted, sorted_from_all_adjacent}
use Rattle.indexmap.specs.IndexSet.{insert_key}
use Rattle.list_facts.specs.Ascending.{text_cmp}
use Rattle.list_facts.specs.Texts.{texts}
use Rattle.list_facts.proofs.Ascending.{text_total}
use Rattle.list_facts.proofs.Lists.{map-take_more}
use Rattle.list_facts.proofs.Membership.{Contains-map, Contains-map_cases}
use Rattle.list_facts.proofs.Quantifiers.{list_any_cases, list_any-from_Contains}
use Rattle.nextest_binaries.specs.Listings.{HasRepeat}

-- where each name is below the next, the names ascend
pub ascending_names : (names : List (String Global)) → ((k : ℕ) (d : String Global) → k + 1 < length names → text_cmp (string_bytes (get_or names k d)) (string_bytes (get_or names (k + 1) d)) ≡ Less) → IsStrictlySortedBy text_cmp (texts names)
ascending_names [] h = sorted_from_all_adjacent text_total [] [] (λ k lt. absurd (omega (arith, lt)))
ascending_names (n ∷ ns) h =
    sorted_from_all_adjacent text_total (texts (n ∷ ns)) [] (λ k lt.
    let within : k + 1 < length (n ∷ ns) = subst (λ m. k + 1 < m) (length-map (n ∷ ns) string_bytes) lt in
    rw (get_or-map string_bytes (n ∷ ns) k n [] (omega (arith, within)), get_or-map string_bytes (n ∷ ns) (k + 1) n [] within) (h k n within))

-- names of which one is not below the next do not ascend
pub descending_names : (names : List (String Global)) (k : ℕ) (d e : String Global) → k + 1 < length names → is_ge (string_cmp (get_or names k d) (get_or names (k + 1) e)) ≡ true → ¬ (IsStrictlySortedBy text_cmp (texts names))
descending_names names k d e within falls ascending =
    let less : text_cmp (get_or (texts names) k []) (get_or (texts names) (k + 1) []) ≡ Less = Less-from_sorted text_cmp (texts names) k (k + 1) [] ascending (omega arith) (omega (arith, within, length-map names string_bytes)) in
    let here : string_cmp (get_or names k d) (get_or names (k + 1) e) ≡ Less = subst (λ x. text_cmp x (string_bytes (get_or names (k + 1) e)) ≡ Less) (get_or-map string_bytes names k d [] (omega (arith, within))) (subst (λ x. text_cmp (get_or (texts names) k []) x ≡ Less) (get_or-map string_bytes names (k + 1) e [] within) less) in
    absurd (true≢false (sym falls ∙ ap is_ge here))

-- texts that ascend stand apart
pub ascending_apart : (xs : List (List ℕ)) (i j : ℕ) → IsStrictlySortedBy text_cmp xs → i < j → j < length xs → get_or xs i [] ≢ get_or xs j []
ascending_apart xs i j ascending before within same =
    let x = get_or xs j [] in
    let less : text_cmp x x ≡ Less = subst (λ y. text_cmp y x ≡ Less) same (Less-from_sorted text_cmp xs i j [] ascending before within) in
    let turned = text_total.antisymm x x in
    cc

pub no_repeat_ascending : (xs : List (List ℕ)) → IsStrictlySortedBy text_cmp xs → ¬ (HasRepeat xs)
no_repeat_ascending xs ascending h = ascending_apart xs h.0 h.1 ascending h.2 h.3 h.4

pub no_repeat_none : ¬ (HasRepeat [])
no_repeat_none h = let lt = h.3 in absurd (omega arith)

repeat_within : (xs : List (List ℕ)) (x : List ℕ) (i j : ℕ) → i < j → j < length xs → get_or (xs ++ x ∷ []) i [] ≡ get_or (xs ++ x ∷ []) j [] → HasRepeat xs
repeat_within xs x i j lt within e =
    let below : i < length xs = omega arith in
    (i, j, lt, within, sym (get_or_append_left xs (x ∷ []) [] i below) ∙ e ∙ get_or_append_left xs (x ∷ []) [] j within)

repeat_last : (xs : List (List ℕ)) (x : List ℕ) (i j : ℕ) → i < j → length xs ≡ j → get_or (xs ++ x ∷ []) i [] ≡ get_or (xs ++ x ∷ []) j [] → Contains xs x
repeat_last xs x i j lt last e =
    let below : i < length xs = omega arith in
    (i, below, get_or_default xs i x [] below ∙ sym (get_or_append_left xs (x ∷ []) [] i below) ∙ e ∙ get_or_push xs x [] j last)

at_end : (n j : ℕ) → j < n + 1 → (j < n) ⊎ (n ≡ j)
at_end n j lt = grind arith

-- a text that is not among those before it makes no repeat
pub no_repeat_more : (xs : List (List ℕ)) (x : List ℕ) → ¬ (HasRepeat xs) → ¬ (Contains xs x) → ¬ (HasRepeat (xs ++ x ∷ []))
no_repeat_more xs x none new h =
    ⊎_elim (λ within. none (repeat_within xs x h.0 h.1 h.2 within h.4)) (λ last. new (repeat_last xs x h.0 h.1 h.2 last h.4)) (at_end (length xs) h.1 (subst (λ n. h.1 < n) (length_push xs x) h.3))

-- a text that is among those before it is a repeat
pub repeat_at : (xs : List (List ℕ)) (i : ℕ) (x : List ℕ) → i < length xs → get_or xs i [] ≡ x → Contains (take i xs) x → HasRepeat xs
repeat_at xs i x lt is h =
    let k = h.0 in
    let short : k < length (take i xs) = h.1 in
    let below : k < i = omega (arith, length-take i xs) in
    let within : k < length xs = omega arith in
    (k, i, below, lt, get_or_default xs k [] x within ∙ sym (get_or-take i xs k x below) ∙ h.2 ∙ sym is)

not_true : (t : Bool) → not t ≡ true → t ≡ false
not_true true e = sym e
not_true false e = refl

not_false : (t : Bool) → not t ≡ false → t ≡ true
not_false true e = refl
not_false false e = sym e

abbrev now : Bor (List ℕ) → List ℕ
now k = k.now

-- a text that the set finds is among those in it
found : (keys : List (Bor (List ℕ))) (x : List ℕ) → list_any (λ k. bytes_eq x k.now) keys ≡ true → Contains (map now keys) x
found keys x h =
    let p = list_any_cases (λ k. bytes_eq x k.now) keys h in
    subst (Contains (map now keys)) (sym ((bytes_eq-Decides x p.0.now).0 p.2)) (Contains-map now keys p.0 p.1)

-- a text that the set does not find is not among those in it
not_found : (keys : List (Bor (List ℕ))) (x : List ℕ) → list_any (λ k. bytes_eq x k.now) keys ≡ false → ¬ (Contains (map now keys) x)
not_found keys x none h =
    let p = Contains-map_cases now keys x h in
    let some = list_any-from_Contains (λ k. bytes_eq x k.now) keys p.0 p.1 ((bytes_eq-Decides x p.0.now).1 (sym p.2)) in
    cc

-- the set holds the texts seen so far, in their order, and none of them was seen twice
pub record HoldsDistinct (keys : List (Bor (List ℕ))) (seen : List (List ℕ)) : Type 0 where
  pub same : map now keys ≡ seen
  pub distinct : ¬ (HasRepeat seen)

pub holds_none : HoldsDistinct [] []
holds_none = record { same = refl; distinct = no_repeat_none }

pub holds_more : (keys keys' : List (Bor (List ℕ))) (seen : List (List ℕ)) (k : Bor (List ℕ)) (b : Bool) → HoldsDistinct keys seen → keys' ≡ insert_key (λ a c. bytes_eq a.now c.now) keys k → b ≡ not (list_any (λ j. bytes_eq k.now j.now) keys) → b ≡ true → HoldsDistinct keys' (seen ++ k.now ∷ [])
holds_more keys keys' seen k b held put added new =
    let fresh = not_true (list_any (λ j. bytes_eq k.now j.now) keys) (sym added ∙ new) in record {
      same = ap (map now) (put ∙ ap (λ t. cond t keys (keys ++ k ∷ [])) fresh) ∙ map-append now keys (k ∷ []) ∙ ap (λ ts. ts ++ k.now ∷ []) held.same;
      distinct = no_repeat_more seen k.now held.distinct (λ h. not_found keys k.now fresh (subst (λ ts. Contains ts k.now) (sym held.same) h));
    }

-- the texts of one string more
pub texts_more : (names : List (String Global)) (i : ℕ) (name : String Global) → i < length names → name ≡ get_or names i name → texts (take (i + 1) names) ≡ texts (take i names) ++ string_bytes name ∷ []
texts_more names i name lt is = map-take_more string_bytes names i name lt ∙ ap (λ n. texts (take i names) ++ string_bytes n ∷ []) (sym is)

pub repeat_of_texts : (names : List (String Global)) (keys : List (Bor (List ℕ))) (i : ℕ) (name : String Global) (k : Bor (List ℕ)) (b : Bool) → HoldsDistinct keys (texts (take i names)) → i < length names → name ≡ get_or names i name → k.now ≡ string_bytes name → b ≡ not (list_any (λ j. bytes_eq k.now j.now) keys) → b ≡ false → HasRepeat (texts names)
repeat_of_texts names keys i name k b held lt is text added old =
    let within : i < length (texts names) = omega (arith, length-map names string_bytes) in
    let at : get_or (texts names) i [] ≡ k.now = get_or-map string_bytes names i name [] lt ∙ ap string_bytes (sym is) ∙ sym text in
    let seen : map now keys ≡ take i (texts names) = held.same ∙ sym (take-map string_bytes i names) in
    repeat_at (texts names) i k.now within at (subst (λ ts. Contains ts k.now) seen (found keys k.now (not_false (list_any (λ j. bytes_eq k.now j.now) keys) (sym added ∙ old))))
