-- The patterns that a filter searches for in the names of tests.
use Rattle.std.specs.Prelude.{◌≡◌, ℕ, ◌+◌, List, [], ◌∷◌, ◌++◌, Some, slice_get}
use Rattle.regex.specs.Patterns.{Re}
use Rattle.nextest_filter_evaluation.specs.NameTests.{NameTest, OfPattern}
use Rattle.nextest_filter_evaluation.specs.Compiled.{Leaf, Test}
use Rattle.nextest_filter_evaluation.specs.Formulas.{Formula, negation, either, both, leaf}

-- the pattern of a matcher, if it has one
abbrev pub pattern_in : NameTest → List Re
pattern_in (OfPattern text pattern) = pattern ∷ []
pattern_in _ = []

abbrev pub leaf_searches : Leaf → List Re
leaf_searches (Test test span) = pattern_in test
leaf_searches _ = []

-- from left to right
abbrev pub searches : Formula Leaf → List Re
searches (negation a) = searches a
searches (either a b) = searches a ++ searches b
searches (both a b) = searches a ++ searches b
searches (leaf l) = leaf_searches l

-- these patterns stand in the list from the place on
abbrev pub HasAt : List Re → ℕ → List Re → Type 0
HasAt all at [] = Unit {0}
HasAt all at (pattern ∷ more) = (slice_get all at ≡ Some pattern) × HasAt all (at + 1) more
