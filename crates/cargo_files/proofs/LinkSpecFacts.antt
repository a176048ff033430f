-- Links that have a spec.
use Rattle.std.proofs.Common.{◌≡◌, ℕ, Bool, true, false, Ok, Option, Some, None, List, [], ◌∷◌, Contains, find, flat_map, string_bytes, ◌||◌, subst, refl, ⊎_elim}
use Rattle.std.proofs.lemmas.Bool.{false≢true}
use Rattle.std.specs.Cmp.Lexicographic.{bytes_decides}
use Rattle.std.specs.List.{list_any}
use Rattle.std.specs.Option.{IfSome}
use Rattle.list_facts.proofs.Membership.{Contains-cons_cases, Contains-first, Contains-flat_map_cases, Contains-none, Contains-rest}
use Rattle.list_facts.proofs.Quantifiers.{list_any-from_Contains}
use Rattle.workspace_record.specs.Records.{Line, Link, Text, Workspace}
use Rattle.record_files.specs.Files.{Reads}
use Rattle.record_files.specs.Records.{record_file}
use Rattle.cargo_files.specs.Specs.{IsSpec, Spec}
use Rattle.cargo_files.specs.TableAnswers.{spec_in, specs_of}
use Rattle.cargo_files.specs.Refused.{HasNoAnswer, RefusesLinks, RefusesTable, has_spec, is_spec}
use Rattle.cargo_files.specs.declared.refusal.Refusal.{Refusal}
use Rattle.cargo_files.specs.declared.refusal.Refusal.TheVariants as refusal
use Rattle.cargo_files.specs.declared.refusal.SpecPlace.{SpecPlace}

-- the first that passes is an element, and passes, where some element does
pub record IsFound {X : Type 0} (p : X → Bool) (xs : List X) : Type 0 where
  pub first : X
  pub among : Contains xs first
  pub passes : p first ≡ true
  pub is : find p xs ≡ Some first

module _ {X : Type 0} (p : X → Bool) where
  at_head : (x : X) (xs : List X) → p x ≡ true → IsFound p (x ∷ xs)
  at_head x xs e = record { first = x; among = Contains-first x xs; passes = e; is = rw e refl }

  behind : (x : X) (xs : List X) → p x ≡ false → IsFound p xs → IsFound p (x ∷ xs)
  behind x xs e f = record { first = f.first; among = Contains-rest x xs f.first f.among; passes = f.passes; is = rw e f.is }

  by_first : (x : X) (xs : List X) (b : Bool) → p x ≡ b → (b || list_any p xs) ≡ true → (list_any p xs ≡ true → IsFound p xs) → IsFound p (x ∷ xs)
  by_first x xs true e any rest = at_head x xs e
  by_first x xs false e any rest = behind x xs e (rest any)

  pub found : (xs : List X) → list_any p xs ≡ true → IsFound p xs
  found [] none = absurd (false≢true none)
  found (x ∷ xs) any = by_first x xs (p x) refl any (found xs)

-- a spec of a line is among its specs
is_in : (spec : Text) (line : Line) → Contains (spec_in line.spec) spec → is_spec spec line.spec ≡ true
is_in spec line among = by line.spec among
  where
    by : (o : Option Text) → Contains (spec_in o) spec → is_spec spec o ≡ true
    by None none = absurd (Contains-none spec none)
    by (Some text) one = ⊎_elim (λ e. (bytes_decides text spec).1 e) (λ none. absurd (Contains-none spec none)) (Contains-cons_cases text [] spec one)

-- a link has each spec of all
some_link : (links : List Link) (spec : Text) → Contains (specs_of links) spec → list_any (has_spec spec) links ≡ true
some_link links spec among =
    let of_link = Contains-flat_map_cases (λ link. flat_map (λ line. spec_in line.spec) link.lines) links spec among in
    let of_line = Contains-flat_map_cases (λ line. spec_in line.spec) of_link.0.lines spec of_link.2 in
    list_any-from_Contains (has_spec spec) links of_link.0 of_link.1 (list_any-from_Contains (λ line. is_spec spec line.spec) of_link.0.lines of_line.0 of_line.1 (is_in spec of_line.0 of_line.2))

-- a spec that cannot be read is named with the first link that has it
pub no_answer : (links : List Link) (place : SpecPlace) → Contains (specs_of links) (string_bytes place.spec) → ((s : Spec) → IsSpec (string_bytes place.spec) s → ⊥)
    → IfSome (find (has_spec (string_bytes place.spec)) links) (λ l. (string_bytes place.owner ≡ l.from) × (string_bytes place.dependency ≡ l.name))
    → HasNoAnswer links place
no_answer links place among unread named =
    let f = found (has_spec (string_bytes place.spec)) links (some_link links (string_bytes place.spec) among) in
    let names = subst (λ o. IfSome o (λ l. (string_bytes place.owner ≡ l.from) × (string_bytes place.dependency ≡ l.name))) f.is named in
    record { link = f.first; among = f.among; owner = names.0; dependency = names.1; has = f.passes; unread = unread }

-- what refuses the links of the record in a file refuses the file
pub refuses_file : (file : List ℕ) (w : Workspace) (r : Refusal) → Reads record_file file (Ok w) → RefusesLinks w.links r → RefusesTable file r
refuses_file file w (refusal.Spec place) reads none = (w, reads, none)
refuses_file file w refusal.Memory reads none = tt
refuses_file file w (refusal.Metadata e) reads none = absurd none
refuses_file file w (refusal.Record e) reads none = absurd none
refuses_file file w (refusal.Settings e) reads none = absurd none
refuses_file file w (refusal.Choice e) reads none = absurd none
refuses_file file w (refusal.File e) reads none = absurd none
refuses_file file w refusal.NoJson reads none = absurd none
refuses_file file w refusal.NoSuites reads none = absurd none
refuses_file file w (refusal.NoList id) reads none = absurd none
refuses_file file w (refusal.UnreadList id) reads none = absurd none
refuses_file file w (refusal.StrayLine id place) reads none = absurd none
refuses_file file w (refusal.Repeated id name) reads none = absurd none
