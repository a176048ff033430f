-- Maps that are filled in the order of their keys.
use Rattle.std.proofs.Common.{◌≡◌, refl, ap, sym, ◌∙◌, List, [], ◌∷◌, ◌++◌, map, Bor, String, Global, string_bytes, false, Less, Greater}
use Rattle.std.proofs.lemmas.Cmp.{nat_list_cmp_total}
use Rattle.std.specs.List.{AllByRecursion}
use Rattle.std.specs.List.Sorted.{IsStrictlySortedBy}
use Rattle.std.specs.Map.{keys_of}
use Rattle.std.specs.Ordering.{ordering_reverse, is_eq}
use Rattle.std.specs.String.{string_cmp, string_eq}
use Rattle.std.specs.BTreeMap.{insert_entry}
use Rattle.std.proofs.lemmas.Map.Text.{is_eq-slice_cmp}
use Rattle.indexmap.specs.IndexMap.{insert_entry as index_insert_entry}
use Rattle.list_facts.specs.Ascending.{text_cmp}
use Rattle.workspace_record.specs.Records.{Text}

-- the keys of entries, as texts
abbrev pub key_texts : {V : Type 0} → List (String Global × V) → List Text
key_texts es = map (λ e. string_bytes e.0) es

-- the names of entries that are lent
abbrev pub names : {V : Type 0} → List (Bor Text × V) → List Text
names es = map (λ e. e.0.now) es

below_each : {V : Type 0} (x : Bor Text) (es : List (Bor Text × V)) → AllByRecursion (λ y. text_cmp x.now y.now ≡ Less) (keys_of es) → AllByRecursion (λ y. text_cmp x.now y ≡ Less) (names es)
below_each x [] h = h
below_each x (e ∷ es) h = (h.0, below_each x es h.1)

pub names_sorted : {V : Type 0} (es : List (Bor Text × V)) → IsStrictlySortedBy (λ x y. text_cmp x.now y.now) (keys_of es) → IsStrictlySortedBy text_cmp (names es)
unfolding IsStrictlySortedBy
names_sorted [] h = h
names_sorted (e ∷ es) h = (below_each e.0 es h.0, names_sorted es h.1)

below_middle : (x : Text) (front : List Text) (y : Text) (more : List Text) → AllByRecursion (λ z. text_cmp x z ≡ Less) (front ++ y ∷ more) → text_cmp x y ≡ Less
below_middle x [] y more h = h.0
below_middle x (z ∷ front) y more h = below_middle x front y more h.1

below_is_above : (k y : Text) → text_cmp y k ≡ Less → text_cmp k y ≡ Greater
below_is_above k y below = nat_list_cmp_total.antisymm k y ∙ ap ordering_reverse below

above_is_other : (k y : String Global) → string_cmp k y ≡ Greater → string_eq k y ≡ false
above_is_other k y above = sym (is_eq-slice_cmp (string_bytes k) (string_bytes y)) ∙ ap is_eq above

-- a key that is above those of the map goes last
pub insert_last : {V : Type 0} (es : List (String Global × V)) (k : String Global) (v : V) (more : List Text) → IsStrictlySortedBy text_cmp (key_texts es ++ string_bytes k ∷ more) → insert_entry string_cmp es k v ≡ es ++ (k, v) ∷ []
unfolding IsStrictlySortedBy
insert_last [] k v more h = refl
insert_last (e ∷ es) k v more h =
    let above : string_cmp k e.0 ≡ Greater = below_is_above (string_bytes k) (string_bytes e.0) (below_middle (string_bytes e.0) (key_texts es) (string_bytes k) more h.0) in
    rw above (ap (λ t. e ∷ t) (insert_last es k v more h.1))

-- so in a map that keeps its keys as they came
pub insert_new : {V : Type 0} (es : List (String Global × V)) (k : String Global) (v : V) (more : List Text) → IsStrictlySortedBy text_cmp (key_texts es ++ string_bytes k ∷ more) → index_insert_entry string_eq es k v ≡ es ++ (k, v) ∷ []
unfolding IsStrictlySortedBy
insert_new [] k v more h = refl
insert_new (e ∷ es) k v more h =
    let other : string_eq k e.0 ≡ false =
    above_is_other k e.0 (below_is_above (string_bytes k) (string_bytes e.0) (below_middle (string_bytes e.0) (key_texts es) (string_bytes k) more h.0)) in
    rw other (ap (λ t. e ∷ t) (insert_new es k v more h.1))

pub key_texts_more : {V : Type 0} (es : List (String Global × V)) (k : String Global) (v : V) (more : List Text) → key_texts (es ++ (k, v) ∷ []) ++ more ≡ key_texts es ++ string_bytes k ∷ more
key_texts_more [] k v more = refl
key_texts_more (e ∷ es) k v more = ap (λ t. string_bytes e.0 ∷ t) (key_texts_more es k v more)
