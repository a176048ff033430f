-- What the words of a command line ask for.
use Rattle.std.specs.Prelude.{◌≡◌, ℕ, Bool, true, false, List, [], Option, Some, None, Result, Ok, Err, codes}
use Rattle.std.specs.Option.{option_map_or}
use Rattle.clap.specs.Words.{Row, first_of, subcommand_rows_of}
use Rattle.clap.specs.declared.parser.matches.ArgMatches.{ArgMatches}
use Rattle.workspace_record.specs.Records.{Text}
use Rattle.test_select_files.specs.Words.{is_given, values_of}
use Rattle.test_select_tests.specs.Partitions.{AsksForPart}
use Rattle.test_select_tests.specs.declared.asked_binaries.AskedBinaries.{AskedBinaries}
use Rattle.test_select_tests.specs.declared.asked_binaries.AskedBinaries.TheVariants.{Available, LetThrough}
use Rattle.test_select_tests.specs.declared.scope.LinkScope.{LinkScope}
use Rattle.test_select_tests.specs.declared.scope.LinkScope.TheVariants.{Declared, SwitchedOn}
use Rattle.test_select.specs.declared.failure.Failure.{Failure}
use Rattle.test_select.specs.declared.failure.Failure.TheVariants.{BadPartition, BadGlob, NotBelow, NotText, Refused, Run}

-- the links that are followed: with `--declared` all links
abbrev pub scope_by : Bool → LinkScope
scope_by true = Declared
scope_by false = SwitchedOn

-- those that the words ask for
abbrev pub scope_in : List Row → LinkScope
scope_in words = scope_by (is_given (codes "declared") words)

-- the binaries that are asked: with `--plain` each that is available
abbrev pub asks_by : Bool → AskedBinaries
asks_by true = Available
asks_by false = LetThrough

-- those that the words ask for
abbrev pub asks_in : List Row → AskedBinaries
asks_in words = asks_by (is_given (codes "plain") words)

-- the filter texts
abbrev pub filters_in : List Row → List Text
filters_in = values_of (codes "filter")

-- the text asks for this part of so many, or for none
abbrev pub MeansPart : Text → Option (ℕ × ℕ) → Type 0
MeansPart text (Some part) = AsksForPart text part.0 part.1
MeansPart text None = (part parts : ℕ) → AsksForPart text part parts → ⊥

-- the part that a word asks for, if it is given and asks for one
abbrev pub IsPartAsked : Option Text → Option (ℕ × ℕ) → Type 0
IsPartAsked (Some text) part = MeansPart text part
IsPartAsked None part = part ≡ None

-- the part of the tests that the words ask for; none, where all tests are asked for
abbrev pub AsksForTestsOf : List Row → Option (ℕ × ℕ) → Type 0
AsksForTestsOf words = IsPartAsked (first_of (codes "partition") words)

-- the word for a part is given, and asks for none
abbrev pub AsksNoPart : List Row → Text → Type 0
AsksNoPart words text = (first_of (codes "partition") words ≡ Some text) × MeansPart text None

-- words are refused just where they ask for no part, by that text
abbrev pub RefusesNoPart : List Row → Result (Unit {0}) Failure → Type 0
RefusesNoPart words (Ok x) = (text : Text) → AsksNoPart words text → ⊥
RefusesNoPart words (Err (BadPartition text)) = AsksNoPart words text.now
RefusesNoPart words (Err (Run failure)) = ⊥
RefusesNoPart words (Err (Refused error)) = ⊥
RefusesNoPart words (Err (NotText name)) = ⊥
RefusesNoPart words (Err (BadGlob text error)) = ⊥
RefusesNoPart words (Err (NotBelow path)) = ⊥

-- the words behind the name of a subcommand; none, where there is none
abbrev pub words_below : ArgMatches → List Row
words_below matches = option_map_or (λ below. below.1) (subcommand_rows_of matches) []
