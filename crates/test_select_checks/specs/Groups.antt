-- The groups of a record, and the group that a test is in.
use Rattle.std.specs.Prelude.{◌≡◌, ◌⊎◌, ◌↔◌, List, [], ◌∷◌, Contains, codes, map}
use Rattle.workspace_record.specs.Records.{Text, Workspace}
use Rattle.nextest_filter_evaluation.specs.NameTests.{NameTest, Suits}
use Rattle.nextest_binaries.specs.Queries as asked
use Rattle.nextest_filter_evaluation.specs.Groups.{AreKnown, known_groups}
use Rattle.nextest_filter_evaluation.specs.declared.groups.KnownGroups.{KnownGroups}
use Rattle.nextest_filter_evaluation.specs.Meaning.{Passes}
use Rattle.test_select_checks.specs.RecordFilters.{CompiledFilters}

-- the known groups are those that the record names, and the one that tests are in without a configuration
-- (from nextest's test groups)
pub record AreGroupsOf (w : Workspace) (groups : KnownGroups) : Type 0 where
  pub are_known : AreKnown groups
  pub names : (name : Text) → Contains (known_groups groups) name ↔ ((codes "@global" ≡ name) ⊎ Contains (map (λ g. g.name) w.groups) name)

-- the group that a test is in: the first whose filter holds, else `@global`; it is said which filters hold of the test
-- (from nextest's test groups)
abbrev pub IsGroupOf : {F : Type 0} → (F → Type 0) → List (Text × F) → Text → Type 0
IsGroupOf holds [] name = codes "@global" ≡ name
IsGroupOf holds (g ∷ gs) name = (holds g.1 × (g.0 ≡ name)) ⊎ ((holds g.1 → ⊥) × IsGroupOf holds gs name)

-- the name of the test's group suits
abbrev pub IsGroupMember : CompiledFilters → asked.Test → NameTest → Type 0
IsGroupMember filters t test = (name : Text) × IsGroupOf (Passes filters.default (λ _. ⊥) t) filters.groups name × Suits test name
