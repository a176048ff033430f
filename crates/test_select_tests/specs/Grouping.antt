-- The chosen tests by binary.
use Rattle.std.specs.Prelude.{◌≡◌, ◌≢◌, ◌<◌, ◌↔◌, List, [], ◌∷◌, ◌++◌, All, Contains, length, map, String, Vec, string_bytes}
use Rattle.std.specs.Global.{Global}
use Rattle.std.specs.List.{AllAdjacentBelow, flat_map}
use Rattle.std.specs.List.Sorted.{IsStrictlySortedBy}
use Rattle.list_facts.specs.Ascending.{pair_cmp, text_cmp}
use Rattle.list_facts.specs.Texts.{texts}
use Rattle.workspace_record.specs.Records.{Text}

-- a binary's id and its tests, as texts
abbrev pub group_of : String Global × Vec (String Global) Global → Text × List Text
group_of group = (string_bytes group.0, texts group.1.items)

-- each test of a group under the binary's id
abbrev pub pairs_of : Text × List Text → List (Text × Text)
pairs_of group = map (λ test. (group.0, test)) group.1

-- the ids of the groups
abbrev pub ids_of_groups : List (Text × List Text) → List Text
ids_of_groups groups = map (λ group. group.0) groups

-- the groups hold the tests in their order, each group has one, and neighbours are of different binaries
pub record IsByBinary (pairs : List (Text × Text)) (groups : List (Text × List Text)) : Type 0 where
  pub whole : flat_map pairs_of groups ≡ pairs
  pub filled : All (λ group. 0 < length group.1) groups
  pub apart : AllAdjacentBelow (λ id next. id ≢ next) (ids_of_groups groups) (length (ids_of_groups groups))

-- the last group is of the binary with this id
abbrev pub IsOfLast : List (Text × List Text) → Text → Type 0
IsOfLast groups id = (front : List (Text × List Text)) × (tests : List Text) × (groups ≡ front ++ (id, tests) ∷ [])

-- the ids of the groups ascend, each once, as do the tests of each, and a test is in a group of its binary just where it is one of them
pub record AreAscendingGroups (pairs : List (Text × Text)) (groups : List (Text × List Text)) : Type 0 where
  pub ids : IsStrictlySortedBy text_cmp (ids_of_groups groups)
  pub tests : All (λ group. IsStrictlySortedBy text_cmp group.1) groups
  pub members : (pair : Text × Text) → Contains pairs pair ↔ ((group : Text × List Text) × Contains groups group × (group.0 ≡ pair.0) × Contains group.1 pair.1)

-- tests that ascend are grouped in ascending order
abbrev pub GroupsAscend : Type 0
GroupsAscend =
    (pairs : List (Text × Text)) (groups : List (Text × List Text))
    → IsStrictlySortedBy pair_cmp pairs
    → IsByBinary pairs groups
    → AreAscendingGroups pairs groups
