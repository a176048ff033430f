-- What clauses see of the parts of a context.
use Rattle.std.specs.Prelude.{◌≡◌, ◌↔◌, ◌⊎◌, ◌++◌, ℕ, IsTrue, Contains, List, [], ◌∷◌, Option, Some, None, String, map, string_bytes}
use Rattle.std.specs.Global.{Global}
use Rattle.std.specs.List.{flat_map}
use Rattle.workspace_record.specs.Records.{Text, Package}
use Rattle.numbered_graph.specs.Sets.{has}
use Rattle.guppy_package_table.specs.Tables.{TableValue}
use Rattle.guppy_package_graph.specs.Finding.{IsAt}
use Rattle.guppy_package_graph.specs.SetValues.{SetValue}
use Rattle.nextest_filtering.specs.Contexts.{AreRowsAt, binaries_of, features_of}
use Rattle.nextest_filter_tokens.specs.declared.parse_error.ParseSingleError.{ParseSingleError}
use Rattle.nextest_filtering.specs.declared.context_names.ContextNames.{ContextNames}

abbrev pub packages_in : ContextNames → List (Text × Text)
packages_in names = names.packages.items

abbrev pub binaries_in : ContextNames → List (Text × Text)
binaries_in names = names.binaries.items

abbrev pub features_in : ContextNames → List Text
features_in names = map string_bytes names.features.items

-- a feature that is said to be on, by the id of its package and its name
abbrev pub listed_as : Text × String Global → Text × Text
listed_as f = (f.0, string_bytes f.1)

abbrev pub list_of : {X : Type 0} → Option X → List X
list_of (Some x) = x ∷ []
list_of None = []

-- the names are those of the packages that pass, of their binaries and of their features
pub record AreNamesOf (packages : TableValue) (passes : ℕ → Type 0) (names : ContextNames) : Type 0 where
  pub rows : List Package
  pub are_rows : AreRowsAt packages passes rows
  pub named : packages_in names ≡ map (λ (p : Package). (p.id, p.name)) rows
  pub built : binaries_in names ≡ flat_map binaries_of rows
  pub featured : features_in names ≡ flat_map features_of rows

-- the ids of the packages that pass, and no other
abbrev pub ArePicked : (Text × Text → Type 0) → List (Text × Text) → List Text → Type 0
ArePicked passes packages ids = (id : Text) → Contains ids id ↔ ((p : Text × Text) × Contains packages p × passes p × (p.0 ≡ id))

-- the package with the id is in the set
pub record IsInSet (set : SetValue) (id : Text) : Type 0 where
  pub place : ℕ
  pub is_place : IsAt set.graph id place
  pub is_in : IsTrue (has set.included place)

-- to the faults these were added, unless something holds
abbrev pub AddsUnless : Type 0 → List ParseSingleError → List ParseSingleError → List ParseSingleError → Type 0
AddsUnless holds missing old new =
    (faults : List ParseSingleError) × ((holds × (faults ≡ [])) ⊎ ((holds → ⊥) × (faults ≡ missing))) × (new ≡ old ++ faults)
