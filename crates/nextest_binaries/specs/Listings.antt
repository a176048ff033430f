-- Which listings are well-formed.
use Rattle.std.specs.Prelude.{◌≡◌, ℕ, ◌<◌, List, [], length, slice_index_or, Contains, Option, Some, None}
use Rattle.nextest_binaries.specs.declared.fault.ListingFault.{ListingFault}
use Rattle.nextest_binaries.specs.declared.fault.ListingFault.TheVariants.{LineFeed, RepeatedName}

-- some name holds a line feed, the byte 10
abbrev pub HasLineFeed : List (List ℕ) → Type 0
HasLineFeed names = (name : List ℕ) × Contains names name × Contains name 10

-- one name stands at two places
abbrev pub HasRepeat : List (List ℕ) → Type 0
HasRepeat names = (i : ℕ) × (j : ℕ) × (i < j) × (j < length names) × (slice_index_or names i [] ≡ slice_index_or names j [])

-- no name holds a line feed, and no name stands twice
pub record IsWellFormed (names : List (List ℕ)) : Type 0 where
  pub one_line : ¬ (HasLineFeed names)
  pub distinct : ¬ (HasRepeat names)

-- the first fault of a listing: a line feed counts before a repeat
abbrev pub HasFault : List (List ℕ) → ListingFault → Type 0
HasFault names LineFeed = HasLineFeed names
HasFault names RepeatedName = ¬ (HasLineFeed names) × HasRepeat names

-- what a test of a listing finds
abbrev pub FindsFault : List (List ℕ) → Option ListingFault → Type 0
FindsFault names None = IsWellFormed names
FindsFault names (Some fault) = HasFault names fault
