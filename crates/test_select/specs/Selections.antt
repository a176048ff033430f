-- What the commands print that select tests or say why: the tests that run, the binaries that are asked for theirs, and why a test is chosen or a binary asked.
use Rattle.std.specs.Prelude.{◌≡◌, ℕ, Bool, true, false, not, List, ◌++◌, Option, Some, None, Result, Ok, Err, String, Vec, codes, flat_map, map}
use Rattle.std.specs.BTreeMap.{BTreeMap}
use Rattle.std.specs.Global.{Global}
use Rattle.clap.specs.Words.{Row, first_of}
use Rattle.list_facts.specs.Texts.{texts}
use Rattle.workspace_record.specs.Records.{Text}
use Rattle.record_files.specs.Listings.{listing, listings_file}
use Rattle.record_writing.specs.Maps.{listings_line}
use Rattle.nextest_binaries.specs.Listers.{Shown, unasked}
use Rattle.test_select_checks.specs.declared.select_error.SelectError.{SelectError}
use Rattle.test_select_checks.specs.declared.select_error.SelectError.TheVariants.{Lister, Memory}
use Rattle.test_select_files.specs.Reading.{Asked, ReadsAs, ReadsBoth, ReadsQuestion}
use Rattle.test_select_files.specs.Words.{files_named, says, word_or_empty}
use Rattle.test_select_files.specs.declared.inputs.FeatureQuestion.{FeatureQuestion}
use Rattle.test_select_files.specs.declared.run_failure.RunFailure.{RunFailure}
use Rattle.test_select_tests.specs.Choosing.{BlamesUnlisted}
use Rattle.test_select_tests.specs.Grouping.{IsByBinary}
use Rattle.test_select_tests.specs.Partitions.{part_of}
use Rattle.test_select_tests.specs.Reasons.{says_yes}
use Rattle.test_select_tests.specs.ReasonTexts.{reason_text}
use Rattle.test_select_tests.specs.Selections.{Selected, report}
use Rattle.test_select_tests.specs.declared.reason.Reason.{Reason}
use Rattle.test_select.specs.Asking.{AsksForTestsOf, asks_in, filters_in, scope_in}
use Rattle.test_select.specs.Orders.{order_line}
use Rattle.test_select.specs.Printing.{EndsReading, Prints, never}
use Rattle.test_select.specs.Runs.{AnswersQuestion, ExplainsQuestion, ListsBinaries}
use Rattle.test_select.specs.declared.failure.Failure.{Failure}

-- ---- what is read

-- the names of the tests in each test binary, under the binary's id
abbrev pub Listings : Type 0
Listings = BTreeMap (String Global) (Vec (String Global) Global)

-- the listings in the file with this name
abbrev pub ReadsListings : Text → Result Listings RunFailure → Asked → Type 0
ReadsListings = ReadsAs (λ (m : Listings). map listing m.entries) listings_file

-- the question and the listings that the words name
abbrev pub ReadsTests : List Row → Result (FeatureQuestion × Listings) RunFailure → Asked → Type 0
ReadsTests = ReadsBoth (λ (m : Listings). map listing m.entries) listings_file (codes "listings")

-- ---- the binaries that are asked

-- a line for each id
abbrev pub id_lines : Vec (String Global) Global → Text
id_lines ids = flat_map order_line (texts ids.items)

-- the ids of the binaries that a selection by these words asks are printed, or how this fails
abbrev pub PrintsBinaries : List Row → FeatureQuestion → Result (Unit {0}) Failure → Option Text → Option Text → Type 0
PrintsBinaries words q =
    Prints (ListsBinaries q (scope_in words) (filters_in words) (asks_in words)) (λ ids text. text ≡ id_lines ids) never

-- how `binaries` ends, by the files that the words name
abbrev pub EndsBinaries : List Row → Result (Unit {0}) Failure → Option Text → Option Text → Asked → Type 0
EndsBinaries words = EndsReading (ReadsQuestion (files_named words)) (PrintsBinaries words)

-- ---- the tests that run

-- a selection by these words, of a lister over the listings that was asked nothing before; a binary is blamed only where no listing is its
abbrev pub Selects : List Row → FeatureQuestion → Listings → Result Selected SelectError → Type 0
Selects words q listings selection =
    (after : Shown) × AnswersQuestion q (scope_in words) (filters_in words) (asks_in words) (unasked listings) selection after × BlamesUnlisted listings selection

-- all chosen tests, or those of a part
abbrev pub tests_of : Option (ℕ × ℕ) → List (Text × Text) → List (Text × Text)
tests_of None chosen = chosen
tests_of (Some part) chosen = part_of part.0 part.1 chosen

-- tests as lines, or as JSON under the ids of their binaries
abbrev pub ShowsTests : Bool → List (Text × Text) → Text → Type 0
ShowsTests false tests text = text ≡ report tests
ShowsTests true tests text = (groups : List (Text × List Text)) × IsByBinary tests groups × (text ≡ listings_line groups)

-- the tests are printed in this form; or memory ran out before anything was; or the output takes no more, and some beginning of the text is
abbrev pub PrintsShown : Bool → List (Text × Text) → Result (Unit {0}) Failure → Option Text → Option Text → Type 0
PrintsShown is_json tests = Prints (λ (given : Result (Unit {0}) SelectError). given ≡ Ok tt) (λ nothing text. ShowsTests is_json tests text) never

-- the words ask for JSON
abbrev pub asks_for_json : List Row → Bool
asks_for_json = says (codes "json") (codes "format")

-- the text of a selection: its tests, or those of the part that the words ask for, in the form that they ask for
abbrev pub IsTextOf : List Row → Selected → Text → Type 0
IsTextOf words selection text =
    (part : Option (ℕ × ℕ)) × AsksForTestsOf words part × ShowsTests (asks_for_json words) (tests_of part selection.chosen) text

-- the tests that run are printed, or those of a part, or how this fails
abbrev pub PrintsTests : List Row → FeatureQuestion → Listings → Result (Unit {0}) Failure → Option Text → Option Text → Type 0
PrintsTests words q listings = Prints (Selects words q listings) (IsTextOf words) never

-- how `tests` ends, by the files that the words name
abbrev pub EndsTests : List Row → Result (Unit {0}) Failure → Option Text → Option Text → Asked → Type 0
EndsTests words = EndsReading (ReadsTests words) (λ files. PrintsTests words files.0 files.1)

-- ---- why a test is chosen, or a binary asked

-- why the test that the words name is chosen or not, or why the binary is asked or not, by a lister over the listings that was asked nothing before
abbrev pub ExplainsBy : List Row → FeatureQuestion → Listings → Result Reason SelectError → Type 0
ExplainsBy words q listings reason =
    (after : Shown) × ExplainsQuestion q (scope_in words) (filters_in words) (word_or_empty (codes "binary") words) (first_of (codes "test") words) (unasked listings) reason after

-- the same; the binary is blamed only where no listing is its
abbrev pub SaysWhy : List Row → FeatureQuestion → Listings → Result Reason SelectError → Type 0
SaysWhy words q listings reason = ExplainsBy words q listings reason × BlamesUnlisted listings reason

-- memory ran out, in place of a failure of the lister
abbrev pub unblamed : Result Reason SelectError → Result Reason SelectError
unblamed (Err (Lister id)) = Err Memory
unblamed reason = reason

-- the line of a reason
abbrev pub reason_line : Reason → Text
reason_line reason = reason_text reason ++ codes "\n"

-- a reason that is a no: the test is not chosen, or the binary not asked
abbrev pub says_no : Reason → Bool
says_no reason = not (says_yes reason)

-- the line of the reason is printed, or how this fails
abbrev pub PrintsWhy : List Row → FeatureQuestion → Listings → Result (Unit {0}) Failure → Option Text → Option Text → Type 0
PrintsWhy words q listings = Prints (SaysWhy words q listings) (λ reason text. text ≡ reason_line reason) says_no

-- how `why` ends, by the files that the words name
abbrev pub EndsWhy : List Row → Result (Unit {0}) Failure → Option Text → Option Text → Asked → Type 0
EndsWhy words = EndsReading (ReadsTests words) (λ files. PrintsWhy words files.0 files.1)
