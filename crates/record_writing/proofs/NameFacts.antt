-- What is found by name among entries in the order of their names.
use Rattle.std.proofs.Common.{◌≡◌, ◌∙◌, refl, sym, ap, List, [], ◌∷◌, ◌++◌, map, reverse, Bool, true, false, cond, Option, Some, None, String, Global, string_bytes, bytes_eq, Ordering, Less, Equal, Greater, true≢false}
use mathlib.Core.List.{reverse_aux}
use Rattle.std.proofs.lemmas.Map.Text.{is_eq-slice_cmp}
use Rattle.std.proofs.lemmas.Slice.Eq.{bytes_eq-Decides}
use Rattle.std.specs.List.{AllByRecursion, IsDistinct}
use Rattle.std.specs.Map.{keys_of, lookup}
use Rattle.std.specs.Ordering.{is_eq, match_ordering, ordering_reverse}
use Rattle.std.specs.List.Sorted.{IsStrictlySortedBy}
use Rattle.std.proofs.lemmas.Cmp.{nat_list_cmp_total}
use Rattle.std.specs.String.{string_eq}
use Rattle.list_facts.specs.Ascending.{text_cmp}
use Rattle.indexmap.specs.IndexMap.{IsUnique}
use Rattle.workspace_record.specs.Records.{Text}
use Rattle.workspace_record.specs.Tables.{answer, answered, entry_of}
use Rattle.workspace_record.specs.declared.choice.PlatformTable.{PlatformTable}
use Rattle.record_writing.specs.Files.{AscendByName, found, found_last}
use Rattle.record_writing.proofs.Entries.{by_name, with_entries, with_entry}

reverse_onto : {A : Type 0} (xs ys zs : List A) → reverse_aux xs (ys ++ zs) ≡ reverse_aux xs ys ++ zs
reverse_onto [] ys zs = refl
reverse_onto (x ∷ xs) ys zs = reverse_onto xs (x ∷ ys) zs

module _ {A : Type 0} where
  twice : (b : Bool) (x y : A) (rest : Option A) → cond b (Some x) rest ≡ cond b (Some x) (cond b (Some y) rest)
  twice true x y rest = refl
  twice false x y rest = refl

  swapped : (b c : Bool) (x y : A) (rest : Option A) → (b ≡ true → c ≡ true → ⊥) → cond c (Some y) (cond b (Some x) rest) ≡ cond b (Some x) (cond c (Some y) rest)
  swapped true true x y rest apart = absurd (apart refl refl)
  swapped true false x y rest apart = refl
  swapped false true x y rest apart = refl
  swapped false false x y rest apart = refl

  put_at : (o : Ordering) (name k l : Text) (x y : A) (es more : List (Text × A)) → text_cmp k l ≡ o → found name more ≡ cond (bytes_eq name k) (Some x) (found name es)
      → found name (match_ordering o ((k, x) ∷ (l, y) ∷ es) ((l, x) ∷ es) ((l, y) ∷ more)) ≡ cond (bytes_eq name k) (Some x) (found name ((l, y) ∷ es))
  put_at Less name k l x y es more is later = refl
  put_at Equal name k l x y es more is later =
      let same : k ≡ l = (bytes_eq-Decides k l).0 (sym (is_eq-slice_cmp k l) ∙ ap is_eq is) in
      rw same (twice (bytes_eq name l) x y (found name es))
  put_at Greater name k l x y es more is later =
      let other : bytes_eq k l ≡ false = sym (is_eq-slice_cmp k l) ∙ ap is_eq is in
      let apart = λ (a : bytes_eq name k ≡ true) (b : bytes_eq name l ≡ true). true≢false (sym ((bytes_eq-Decides k l).1 (sym ((bytes_eq-Decides name k).0 a) ∙ (bytes_eq-Decides name l).0 b)) ∙ other) in
      ap (cond (bytes_eq name l) (Some y)) later ∙ swapped (bytes_eq name k) (bytes_eq name l) x y (found name es) apart

  put_found : (name k : Text) (x : A) (es : List (Text × A)) → found name (with_entry k x es) ≡ cond (bytes_eq name k) (Some x) (found name es)
  put_found name k x [] = refl
  put_found name k x (e ∷ es) = put_at _ name k e.0 x e.1 es (with_entry k x es) refl (put_found name k x es)

  abbrev or_else : Option A → Option A → Option A
  or_else None other = other
  or_else (Some x) other = Some x

  or_none : (o : Option A) → or_else o None ≡ o
  or_none None = refl
  or_none (Some x) = refl

  apart_of_first : (b : Bool) (x : A) (rest other : Option A) → cond b (Some x) (or_else rest other) ≡ or_else (cond b (Some x) rest) other
  apart_of_first true x rest other = refl
  apart_of_first false x rest other = refl

  -- no name stands twice
  abbrev Apart : List (Text × A) → Type 0
  Apart [] = Unit {0}
  Apart (e ∷ es) = AllByRecursion (λ (other : Text × A). bytes_eq e.0 other.0 ≡ false) es × Apart es

  none_found : (name : Text) (es : List (Text × A)) → AllByRecursion (λ (other : Text × A). bytes_eq name other.0 ≡ false) es → found name es ≡ None
  none_found name [] h = refl
  none_found name (e ∷ es) h = rw (h.0, none_found name es h.1)

  -- behind entries stands another
  found_behind : (name : Text) (es : List (Text × A)) (e : Text × A) → found name (es ++ e ∷ []) ≡ or_else (found name es) (cond (bytes_eq name e.0) (Some e.1) None)
  found_behind name [] e = refl
  found_behind name (f ∷ es) e = ap (cond (bytes_eq name f.0) (Some f.1)) (found_behind name es e) ∙ apart_of_first (bytes_eq name f.0) f.1 (found name es) (cond (bytes_eq name e.0) (Some e.1) None)

  step : (b : Bool) (x : A) (last front : Option A) → or_else last (cond b (Some x) front) ≡ or_else (or_else last (cond b (Some x) None)) front
  step b x (Some y) front = refl
  step true x None front = refl
  step false x None front = refl

  -- the last of the entries that go in is found, and else what was there
  all_found : (name : Text) (es front : List (Text × A)) → found name (with_entries es front) ≡ or_else (found_last name es) (found name front)
  all_found name [] front = refl
  all_found name (e ∷ es) front =
      all_found name es (with_entry e.0 e.1 front)
      ∙ ap (or_else (found_last name es)) (put_found name e.0 e.1 front)
      ∙ step (bytes_eq name e.0) e.1 (found_last name es) (found name front)
      ∙ ap (λ o. or_else o (found name front)) (sym (found_behind name (reverse es) e) ∙ ap (found name) (sym (reverse_onto es [] (e ∷ []))))

  pub last_by_name : (name : Text) (es : List (Text × A)) → found name (by_name es) ≡ found_last name es
  last_by_name name es = all_found name es [] ∙ or_none (found_last name es)

  -- where no name stands twice, the last is the first
  one_found : (b : Bool) (x : A) (rest : Option A) → (b ≡ true → rest ≡ None) → or_else rest (cond b (Some x) None) ≡ cond b (Some x) rest
  one_found true x rest h = rw (h refl)
  one_found false x rest h = or_none rest

  last_is_first : (name : Text) (es : List (Text × A)) → Apart es → found_last name es ≡ found name es
  last_is_first name [] h = refl
  last_is_first name (e ∷ es) h =
      ap (found name) (reverse_onto es [] (e ∷ []))
      ∙ found_behind name (reverse es) e
      ∙ ap (λ o. or_else o (cond (bytes_eq name e.0) (Some e.1) None)) (last_is_first name es h.1)
      ∙ one_found (bytes_eq name e.0) e.1 (found name es) (λ is. none_found name es (rw ((bytes_eq-Decides name e.0).0 is) h.0))

  below_at : (o : Ordering) (l k : Text) (x : A) (e : Text × A) (es more : List (Text × A)) → text_cmp l k ≡ Less → AllByRecursion (λ y. text_cmp l y ≡ Less) (map (λ e. e.0) (e ∷ es)) → AllByRecursion (λ y. text_cmp l y ≡ Less) (map (λ e. e.0) more)
      → AllByRecursion (λ y. text_cmp l y ≡ Less) (map (λ e. e.0) (match_ordering o ((k, x) ∷ e ∷ es) ((e.0, x) ∷ es) (e ∷ more)))
  below_at Less l k x e es more under h later = (under, h)
  below_at Equal l k x e es more under h later = h
  below_at Greater l k x e es more under h later = (h.0, later)

  -- a name below others stays below them
  below_put : (l k : Text) (x : A) (es : List (Text × A)) → text_cmp l k ≡ Less → AllByRecursion (λ y. text_cmp l y ≡ Less) (map (λ e. e.0) es) → AllByRecursion (λ y. text_cmp l y ≡ Less) (map (λ e. e.0) (with_entry k x es))
  below_put l k x [] under h = (under, tt)
  below_put l k x (e ∷ es) under h = below_at (text_cmp k e.0) l k x e es (with_entry k x es) under h (below_put l k x es under h.1)

  above_all : (k l : Text) (es : List (Text × A)) → text_cmp k l ≡ Less → AllByRecursion (λ y. text_cmp l y ≡ Less) (map (λ e. e.0) es) → AllByRecursion (λ y. text_cmp k y ≡ Less) (map (λ e. e.0) es)
  above_all k l [] under h = tt
  above_all k l (e ∷ es) under h = (nat_list_cmp_total.trans k l e.0 under h.0, above_all k l es under h.1)

  ascend_at : (o : Ordering) (k : Text) (x : A) (e : Text × A) (es more : List (Text × A)) → text_cmp k e.0 ≡ o → AscendByName (e ∷ es) → AllByRecursion (λ y. text_cmp e.0 y ≡ Less) (map (λ e. e.0) es) → (text_cmp e.0 k ≡ Less → AllByRecursion (λ y. text_cmp e.0 y ≡ Less) (map (λ e. e.0) more)) → AscendByName more
      → AscendByName (match_ordering o ((k, x) ∷ e ∷ es) ((e.0, x) ∷ es) (e ∷ more))
  unfolding IsStrictlySortedBy
  ascend_at Less k x e es more is h under later rest = ((is, above_all k e.0 es is under), h)
  ascend_at Equal k x e es more is h under later rest = h
  ascend_at Greater k x e es more is h under later rest = (later (nat_list_cmp_total.antisymm e.0 k ∙ ap ordering_reverse is), rest)

  ascend_put : (k : Text) (x : A) (es : List (Text × A)) → AscendByName es → AscendByName (with_entry k x es)
  unfolding IsStrictlySortedBy
  ascend_put k x [] h = (tt, tt)
  ascend_put k x (e ∷ es) h = ascend_at (text_cmp k e.0) k x e es (with_entry k x es) refl h h.0 (λ under. below_put e.0 k x es under h.0) (ascend_put k x es h.1)

  ascend_all : (es front : List (Text × A)) → AscendByName front → AscendByName (with_entries es front)
  ascend_all [] front h = h
  ascend_all (e ∷ es) front h = ascend_all es (with_entry e.0 e.1 front) (ascend_put e.0 e.1 front h)

  pub by_name_ascends : (es : List (Text × A)) → AscendByName (by_name es)
  unfolding IsStrictlySortedBy
  by_name_ascends es = ascend_all es [] tt

others : (k : String Global) (es : List (String Global × Bool)) → AllByRecursion (λ y. string_eq k y ≡ false) (keys_of es) → AllByRecursion (λ (other : Text × Bool). bytes_eq (string_bytes k) other.0 ≡ false) (map entry_of es)
others k [] h = tt
others k (e ∷ es) h = (h.0, others k es h.1)

apart_of : (es : List (String Global × Bool)) → IsDistinct string_eq (keys_of es) → Apart (map entry_of es)
unfolding IsDistinct
apart_of [] h = tt
apart_of (e ∷ es) h = (others e.0 es h.0, apart_of es h.1)

entries_found : (spec : Text) (es : List (String Global × Bool)) → found spec (map entry_of es) ≡ lookup (λ k. bytes_eq spec (string_bytes k)) es
entries_found spec [] = refl
entries_found spec (e ∷ es) = ap (cond (bytes_eq spec (string_bytes e.0)) (Some e.1)) (entries_found spec es)

-- a table answers a spec as its entries by name do
pub answer_by_name : (t : PlatformTable) → IsUnique string_eq t.answers → (spec : Text) → found spec (by_name (answered t)) ≡ answer t spec
answer_by_name t unique spec = last_by_name spec (answered t) ∙ last_is_first spec (answered t) (apart_of t.answers.entries unique) ∙ entries_found spec t.answers.entries
