-- The members of an object, each of which is read and goes last in a map.
use Rattle.std.proofs.Common.{◌≡◌, refl, sym, ap, ◌∙◌, map, List, [], ◌∷◌, ◌++◌, append_assoc, Bor, String, Global, string_bytes, Result, Ok, Err}
use Rattle.std.proofs.lemmas.List.{map-append}
use Rattle.std.specs.List.Sorted.{IsStrictlySortedBy}
use Rattle.std.specs.Map.{keys_of}
use Rattle.json.specs.declared.value.Value.{Value}
use Rattle.serde_json.specs.Data.{Data, Members, member}
use Rattle.list_facts.specs.Ascending.{text_cmp}
use Rattle.workspace_record.specs.Records.{Text}
use Rattle.record_files.specs.Faults.{Fault}
use Rattle.record_files.specs.Outcomes.{◌>>=◌}
use Rattle.record_files.specs.Trees.{seen, lent_members}
use Rattle.record_files.specs.Values.{each_member}
use Rattle.record_files.proofs.Lists.{with_front}
use Rattle.record_files.proofs.Keys.{key_texts, key_texts_more, names, names_sorted}

-- the next element goes to the end of what was read before
with_front_more : {A : Type 0} (front : List A) (x : A) (said : Result (List A) Fault) → with_front front (said >>= λ xs. Ok (x ∷ xs)) ≡ with_front (front ++ x ∷ []) said
with_front_more front x (Ok xs) = ap Ok (sym (append_assoc front (x ∷ []) xs))
with_front_more front x (Err e) = refl

with_no_front : {A : Type 0} (said : Result (List A) Fault) → with_front [] said ≡ said
with_no_front (Ok xs) = refl
with_no_front (Err e) = refl

-- a value that is lent, under its name
abbrev Lent : Type 0
Lent = Bor Text × Bor (Value Global)

module _ {V A : Type 0} (shows : V → A) (read : Text → Data → Result A Fault) where
  -- an entry of the map, by its texts
  abbrev pub shown : String Global × V → Text × A
  shown entry = (string_bytes entry.0, shows entry.1)

  -- What the loop keeps: the keys that were found and those that are left ascend, and what was found
  -- and what the members that are left give is what all of them give.
  abbrev pub Kept : List Lent → List (String Global × V) → List Lent → Type 0
  Kept all found left =
      IsStrictlySortedBy text_cmp (key_texts found ++ names left) ×
      (with_front (map shown found) (each_member read (lent_members left)) ≡ each_member read (lent_members all))

  pub starts : (all : List Lent) → IsStrictlySortedBy (λ x y. text_cmp x.now y.now) (keys_of all) → Kept all [] all
  starts all sorted = (names_sorted all sorted, with_no_front (each_member read (lent_members all)))

  reads_more : (front : List (Text × A)) (name : Text) (d : Data) (ms : Members) (x : A) → read name d ≡ Ok x
      → with_front front (each_member read (member name d ms)) ≡ with_front (front ++ (name, x) ∷ []) (each_member read ms)
  reads_more front name d ms x was_read = rw was_read (with_front_more front (name, x) (each_member read ms))

  pub goes_on : (all : List Lent) (found new : List (String Global × V)) (name : Bor Text) (value : Bor (Value Global)) (left : List Lent) (k : String Global) (v : V)
      → Kept all found ((name, value) ∷ left)
      → string_bytes k ≡ name.now
      → read name.now (seen value.now) ≡ Ok (shows v)
      → (IsStrictlySortedBy text_cmp (key_texts found ++ string_bytes k ∷ names left) → new ≡ found ++ (k, v) ∷ [])
      → Kept all new left
  goes_on all found new name value left k v kept same was_read goes_last =
      let sorted : IsStrictlySortedBy text_cmp (key_texts found ++ string_bytes k ∷ names left) = rw same kept.0 in
      let last : new ≡ found ++ (k, v) ∷ [] = goes_last sorted in
      let more : with_front (map shown found ++ (name.now, shows v) ∷ []) (each_member read (lent_members left)) ≡ each_member read (lent_members all) =
      sym (reads_more (map shown found) name.now (seen value.now) (lent_members left) (shows v) was_read) ∙ kept.1 in
      rw last ((rw key_texts_more sorted), rw (map-append shown found ((k, v) ∷ []), same) more)
