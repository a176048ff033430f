-- Filters made ready for the tests of one binary, as plain values, and what they say of a test.
use Rattle.std.specs.Prelude.{◌≡◌, ◌↔◌, ℕ, Bool, true, List, [], ◌∷◌, Some, IsTrue, is_some, map, slice_get}
use Rattle.std.specs.Str.{chars}
use Rattle.std.specs.Str.Iter.{HasSubslice}
use Rattle.regex.specs.Patterns.{Re, find_str}
use Rattle.workspace_record.specs.Records.{Text}
use Rattle.nextest_filter_matchers.specs.Globs.{Glob, GlobMatches}
use Rattle.nextest_filter_matchers.specs.Matchers.{tokens_of}
use Rattle.nextest_filter_evaluation.specs.NameTests.{NameTest, Suits}
use Rattle.nextest_binaries.specs.Queries as asked
use Rattle.nextest_binaries.specs.Queries.{binary_of}
use Rattle.nextest_filter_evaluation.specs.Compiled.{Leaf}
use Rattle.nextest_filter_evaluation.specs.Formulas.{Formula, Holds, negation, either, both, leaf}
use Rattle.nextest_filter_evaluation.specs.Meaning.{LeafHolds}
use Rattle.nextest_filter_evaluation.specs.Searches.{HasAt, pattern_in}
use Rattle.nextest_filter_evaluation.specs.declared.ready_expr.ReadyExpr.{ReadyExpr, Known, Not', Union', Intersection', Equal, Contains, Glob as OfGlob, Pattern, Groups}
use Rattle.nextest_filter_evaluation.specs.declared.ready_context.ReadyContext.{ReadyContext}

-- what is still asked of a test: nothing, that its name is a text, contains one, matches a glob or has the pattern at a place in it, or that its group is one of these, by their places
pub data Question : Type 0 where
  Answered : Bool → Question
  IsText : Text → Question
  HasText : Text → Question
  SuitsGlob : Glob → Question
  HasPattern : ℕ → Question
  IsGrouped : List Bool → Question

-- what is ready, as a plain value
abbrev pub ready_of : ReadyExpr → Formula Question
ready_of (Known value) = leaf (Answered value)
ready_of (Not' p x) = negation (ready_of x)
ready_of (Union' p x q y) = either (ready_of x) (ready_of y)
ready_of (Intersection' p x q y) = both (ready_of x) (ready_of y)
ready_of (Equal text) = leaf (IsText text.now)
ready_of (Contains text) = leaf (HasText text.now)
ready_of (OfGlob glob) = leaf (SuitsGlob (tokens_of glob.now))
ready_of (Pattern place) = leaf (HasPattern place)
ready_of (Groups flags) = leaf (IsGrouped flags.items)

-- the left side's operators, from the inside out, around a part
abbrev pub turned_over : ReadyExpr → Formula Question → Formula Question
turned_over (Not' p x) f = turned_over x (negation f)
turned_over (Union' p x q y) f = turned_over x (either f (ready_of y))
turned_over (Intersection' p x q y) f = turned_over x (both f (ready_of y))
turned_over _ f = f

-- the pattern at the place is found in the name
abbrev pub IsFound : List Re → ℕ → Text → Type 0
IsFound patterns place name = (p : Re) × (slice_get patterns place ≡ Some p) × IsTrue (is_some (find_str p name 0))

-- what is said of a test by its group's place and its name
abbrev pub Says : List Re → ℕ → Text → Question → Type 0
Says patterns group name (Answered value) = IsTrue value
Says patterns group name (IsText text) = text ≡ name
Says patterns group name (HasText text) = HasSubslice name text
Says patterns group name (SuitsGlob glob) = GlobMatches glob (chars name)
Says patterns group name (HasPattern place) = IsFound patterns place name
Says patterns group name (IsGrouped flags) = slice_get flags group ≡ Some true

-- the name of the group at the place suits
abbrev pub IsSuited : List Text → ℕ → NameTest → Type 0
IsSuited names group test = (name : Text) × (slice_get names group ≡ Some name) × Suits test name

-- the test of the binary with the name
abbrev pub test_in : ReadyContext → Text → asked.Test
test_in cx name = record { binary = binary_of cx.binary_query; name = name }

-- the filter holds of the test that has the name, in the group at the place
abbrev pub HoldsOf : ReadyContext → ℕ → Text → Leaf → Type 0
HoldsOf cx group name l =
    LeafHolds (IsSuited (map (λ t. t.now) cx.group_names.now) group) (IsTrue cx.default) (test_in cx name) l

-- two ready filters say the same of each test
abbrev pub SayAlike : Formula Question → Formula Question → Type 0
SayAlike one other =
    (patterns : List Re) (group : ℕ) (name : Text) → Holds (Says patterns group name) one ↔ Holds (Says patterns group name) other

-- what is asked of a name is whether it suits, where the matcher's pattern stands at the place
abbrev pub AsksOf : ℕ → NameTest → Formula Question → Type 0
AsksOf at test ready =
    (patterns : List Re) (group : ℕ) (name : Text) → HasAt patterns at (pattern_in test) → Holds (Says patterns group name) ready ↔ Suits test name

-- a flag for each name says whether it suits
abbrev pub AreSuited : NameTest → List Text → List Bool → Type 0
AreSuited test [] [] = Unit {0}
AreSuited test (name ∷ names) (flag ∷ flags) = (IsTrue flag ↔ Suits test name) × AreSuited test names flags
AreSuited test _ _ = ⊥

-- what is ready says the same as the filter, of each test, where the patterns stand from the place on
abbrev pub IsReady : ReadyContext → (List Re → Type 0) → Formula Leaf → Formula Question → Type 0
IsReady cx stand f ready =
    (patterns : List Re) (group : ℕ) (name : Text) → stand patterns → Holds (Says patterns group name) ready ↔ Holds (HoldsOf cx group name) f
