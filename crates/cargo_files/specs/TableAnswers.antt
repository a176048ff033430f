-- The answers of a table to the specs of a record.
use Rattle.std.specs.Prelude.{◌≡◌, ◌↔◌, Bool, List, [], ◌∷◌, flat_map, Contains, Option, Some, None, IsTrue, string_bytes}
use Rattle.workspace_record.specs.Records.{Text, Link}
use Rattle.cargo_files.specs.Settings.{Setting}
use Rattle.cargo_files.specs.Specs.{IsSpec, Spec, SpecHolds}
use Rattle.cargo_files.specs.declared.cfg_table.TableError.{TableError}
use Rattle.cargo_files.specs.declared.cfg_table.TableError.TheVariants as error

-- the spec of a line, if it has one
abbrev pub spec_in : Option Text → List Text
spec_in (Some spec) = spec ∷ []
spec_in None = []

-- the specs of all lines
abbrev pub specs_of : List Link → List Text
specs_of links = flat_map (λ link. flat_map (λ line. spec_in line.spec) link.lines) links

-- the text is a spec, and this is the answer to it
abbrev pub Says : Text → List Setting → Text → Bool → Type 0
Says triple settings text answer =
    (s : Spec) × IsSpec text s × (IsTrue answer ↔ SpecHolds triple settings s)

-- just the specs have an answer, each the one that it says
abbrev pub IsAnswer : Text → List Setting → List Text → Text → Option Bool → Type 0
IsAnswer triple settings specs spec (Some answer) = Contains specs spec × Says triple settings spec answer
IsAnswer triple settings specs spec None = Contains specs spec → ⊥

-- the text is refused, and is no spec
abbrev pub IsRefusedAs : Text → TableError → Type 0
IsRefusedAs text (error.Spec spec fault) = (string_bytes spec ≡ text) × ((s : Spec) → IsSpec text s → ⊥)
IsRefusedAs text error.Memory = Unit {0}

-- one of the texts is no spec
abbrev pub IsRefusal : List Text → TableError → Type 0
IsRefusal specs (error.Spec spec fault) =
    Contains specs (string_bytes spec) × ((s : Spec) → IsSpec (string_bytes spec) s → ⊥)
IsRefusal specs error.Memory = Unit {0}
