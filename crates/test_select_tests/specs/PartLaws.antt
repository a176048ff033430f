-- What holds of the parts in which tests are split.
use Rattle.std.specs.Prelude.{◌≡◌, ◌↔◌, ◌≤◌, ℕ, List, Contains, IsTrue}
use Rattle.std.specs.List.Sorted.{IsStrictlySortedBy}
use Rattle.list_facts.specs.Ascending.{pair_cmp}
use Rattle.workspace_record.specs.Records.{Text}
use Rattle.test_select_tests.specs.Partitions.{is_in_part, part_of}

-- one of so many parts, from 1
pub record IsPart (part parts : ℕ) : Type 0 where
  pub from_one : 1 ≤ part
  pub within : part ≤ parts

-- the place is one of this part, and of no other
pub record IsOfThisAlone (place part parts : ℕ) : Type 0 where
  pub is : IsPart part parts
  pub here : IsTrue (is_in_part part parts place)
  pub alone : (other : ℕ) → IsPart other parts → IsTrue (is_in_part other parts place) → other ≡ part

-- each place is one of exactly one part
abbrev pub PlacesAreOfOnePart : Type 0
PlacesAreOfOnePart = (parts place : ℕ) → 1 ≤ parts → (part : ℕ) × IsOfThisAlone place part parts

-- what is in a list is in one of its parts, and what is in a part is in the list
abbrev pub PartsAreTheWhole : Type 0
PartsAreTheWhole =
    (parts : ℕ) (pairs : List (Text × Text)) (pair : Text × Text)
    → 1 ≤ parts
    → Contains pairs pair ↔ ((part : ℕ) × IsPart part parts × Contains (part_of part parts pairs) pair)

-- no two parts of a list that ascends have an element in common
abbrev pub PartsShareNothing : Type 0
PartsShareNothing =
    (parts one other : ℕ) (pairs : List (Text × Text)) (pair : Text × Text)
    → IsStrictlySortedBy pair_cmp pairs
    → IsPart one parts
    → IsPart other parts
    → Contains (part_of one parts pairs) pair
    → Contains (part_of other parts pairs) pair
    → one ≡ other

-- a part of a list that ascends ascends
abbrev pub PartsAscend : Type 0
PartsAscend =
    (part parts : ℕ) (pairs : List (Text × Text))
    → IsStrictlySortedBy pair_cmp pairs
    → IsStrictlySortedBy pair_cmp (part_of part parts pairs)
