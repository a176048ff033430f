-- Which test binaries a record has, and which tests are listed of them.
use Rattle.std.specs.Prelude.{◌≡◌, ℕ, Bool, true, List, [], ◌∷◌, map, flat_map, Contains, Option, Some, None, Ok, bytes_eq, codes}
use Rattle.std.specs.Option.{option_map_or}
use Rattle.std.specs.Str.{IsUtf8}
use Rattle.std.specs.Str.Lines.{lines}
use Rattle.serde_json.specs.Data.{Data}
use Rattle.serde_json.specs.Find.{get}
use Rattle.serde_json.specs.Read.{read}
use Rattle.workspace_record.specs.Records.{Text, Workspace}
use Rattle.guppy_package_rules.specs.Places.{first_repeat}
use Rattle.record_files.specs.Files.{Reads}
use Rattle.record_files.specs.Records.{record_file}
use Rattle.test_select_rules.specs.Binaries.{binaries}
use Rattle.cargo_files.specs.Nextest.{suite_tests}
use Rattle.cargo_files.specs.Terse.{ListTests}

-- the ids are those of the test binaries of the record in the file
abbrev pub AreIdsIn : List ℕ → List Text → Type 0
AreIdsIn file ids = (w : Workspace) × Reads record_file file (Ok w) × (ids ≡ map (λ b. b.id) (binaries w))

-- the lines of what a test program printed list these tests
abbrev pub ArePrinted : List ℕ → List Text → Type 0
ArePrinted printed tests = IsUtf8 printed × ListTests (lines printed) tests

-- what nextest printed is this value
abbrev pub IsNextestList : List ℕ → Data → Type 0
IsNextestList printed list = IsUtf8 printed × (read printed ≡ Some list)

-- the tests that nextest lists of a binary, with its id, if it lists the binary
abbrev pub suite_listing : Data → Text → List (Text × List Text)
suite_listing list id = option_map_or (λ tests. (id, tests) ∷ []) (suite_tests list id) []

-- a binary that is not listed may be left out, and what is listed of one has each name once
abbrev pub MayStand : Bool → Option (List Text) → Type 0
MayStand built None = built ≡ true
MayStand built (Some tests) = first_repeat bytes_eq tests ≡ None

-- the listings are those of the binaries with these ids, in this order, and each may stand
pub record AreSuites (list : Data) (ids : List Text) (built : Bool) (listings : List (Text × List Text)) : Type 0 where
  pub listed : listings ≡ flat_map (suite_listing list) ids
  pub stand : (id : Text) → Contains ids id → MayStand built (suite_tests list id)

-- the value has suites
abbrev pub HasSuites : Data → Type 0
HasSuites list = get (codes "rust-suites") list ≡ None → ⊥

-- the same for what nextest printed, which has suites
abbrev pub AreListed : List ℕ → List Text → Bool → List (Text × List Text) → Type 0
AreListed printed ids built listings = (list : Data) × IsNextestList printed list × HasSuites list × AreSuites list ids built listings
