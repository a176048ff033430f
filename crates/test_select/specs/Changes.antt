-- What `changed` prints: a filter for the tests of what depends on packages to which changed paths belong.
use Rattle.std.specs.Borrow.{Bor}
use Rattle.std.specs.Global.{Global}
use Rattle.std.specs.Prelude.{◌≡◌, ℕ, ◌⊎◌, Vec, List, [], ◌∷◌, ◌++◌, ◌==◌, Option, Some, None, Result, Ok, Err, codes, map, slice_get, string_bytes}
use Rattle.std.specs.Io.KnownBytes.{Appends}
use Rattle.std.specs.List.{slice_split}
use Rattle.std.specs.Str.{IsUtf8, chars}
use Rattle.clap.specs.Words.{Row, first_of}
use Rattle.list_facts.specs.Writers.{AddsUpTo}
use Rattle.workspace_record.specs.Records.{Text, Workspace}
use Rattle.guppy_package_table.specs.Tables.{TableValue}
use Rattle.nextest_filter_matchers.specs.GlobReading.{read_glob}
use Rattle.nextest_filter_matchers.specs.Globs.{Glob}
use Rattle.nextest_filter_matchers.specs.Matchers.{tokens_of}
use Rattle.nextest_filter_matchers.specs.declared.generic_glob.GenericGlob.{GenericGlob}
use Rattle.nextest_filter_matchers.specs.declared.glob_error.GlobError.{GlobError}
use Rattle.nextest_filter_syntax.specs.TreeTexts.{tree_text}
use Rattle.test_select_changes.specs.ChangedFilters.{changed_tree}
use Rattle.test_select_changes.specs.Changes.{Changes}
use Rattle.test_select_changes.specs.declared.changed.Changed.{Changed}
use Rattle.test_select_changes.specs.declared.changed.ChangedError.{ChangedError}
use Rattle.test_select_changes.specs.declared.changed.ChangedError.TheVariants.{Path}
use Rattle.test_select_checks.specs.Checks.{IsChecked}
use Rattle.test_select_checks.specs.Contexts.{IsDeclaredGraph, IsNeeded}
use Rattle.test_select_checks.specs.Errors.{select_error_of}
use Rattle.test_select_checks.specs.declared.record_error.RecordError.{RecordError}
use Rattle.test_select_checks.specs.declared.select_error.SelectError.{SelectError}
use Rattle.test_select_files.specs.Reading.{Asked, ReadsBytes, ReadsRecord}
use Rattle.test_select_files.specs.Words.{values_of, word_or_empty}
use Rattle.test_select_files.specs.declared.run_failure.RunFailure.{RunFailure}
use Rattle.test_select_files.specs.declared.run_failure.RunFailure.TheVariants as run
use Rattle.test_select.specs.Printing.{EndsReading}
use Rattle.test_select.specs.declared.changes.ChangedInputs.{ChangedInputs}
use Rattle.test_select.specs.declared.failure.Failure.{Failure}
use Rattle.test_select.specs.declared.failure.Failure.TheVariants.{BadPartition, BadGlob, NotBelow, NotText, Refused, Run}

-- ---- what is read

-- the bytes of the file of paths; where none is named, none is asked for, and there are none
abbrev pub ReadsPaths : Option Text → Result (List ℕ) RunFailure → Asked → Type 0
ReadsPaths (Some name) result asked = ReadsBytes name result asked
ReadsPaths None (Ok bytes) asked = (bytes ≡ []) × (asked ≡ [])
ReadsPaths None (Err failure) asked = ⊥

-- the record and then the file of paths were read
pub record AreChangesRead (words : List Row) (inputs : ChangedInputs) (asked : Asked) : Type 0 where
  pub for_record : Asked
  pub for_paths : Asked
  pub in_order : asked ≡ for_record ++ for_paths
  pub record_read : ReadsRecord (word_or_empty (codes "record") words) (Ok inputs.workspace) for_record
  pub paths_read : ReadsPaths (first_of (codes "paths") words) (Ok inputs.listed.items) for_paths

-- the record was read, and then the file of paths failed
pub record PathsFail (words : List Row) (failure : RunFailure) (asked : Asked) : Type 0 where
  pub for_record : Asked
  pub for_paths : Asked
  pub in_order : asked ≡ for_record ++ for_paths
  pub workspace : Workspace
  pub record_read : ReadsRecord (word_or_empty (codes "record") words) (Ok workspace) for_record
  pub fails : ReadsPaths (first_of (codes "paths") words) (Err failure) for_paths

-- the files that the words name, or why the first one that failed did
abbrev pub ReadsChanges : List Row → Result ChangedInputs RunFailure → Asked → Type 0
ReadsChanges words (Ok inputs) asked = AreChangesRead words inputs asked
ReadsChanges words (Err failure) asked =
    ReadsRecord (word_or_empty (codes "record") words) (Err failure) asked ⊎ PathsFail words failure asked

-- ---- what the paths come to

-- the lines of a file of paths: what stands between its line feeds
abbrev pub lines_of : List ℕ → List Text
lines_of = slice_split (λ byte. byte == 10)

-- the paths that changed: those of the words, and then the lines of the file
abbrev pub changed_paths : List Row → List ℕ → List Text
changed_paths words listed = values_of (codes "path") words ++ lines_of listed

-- the texts read as these globs
abbrev pub ReadAsGlobs : List Text → List Glob → Type 0
ReadAsGlobs texts globs = map (λ text. read_glob (chars text)) texts ≡ map (λ glob. Ok glob) globs

-- the first of the texts that is no glob, and why it is none
pub record IsNoGlob (texts : List Text) (text : Text) (error : GlobError) : Type 0 where
  pub before : List Text
  pub after : List Text
  pub among : texts ≡ before ++ text ∷ after
  pub globs : List Glob
  pub read_before : ReadAsGlobs before globs
  pub refused : read_glob (chars text) ≡ Err error

module _ (words : List Row) (inputs : ChangedInputs) where
  -- the file of paths is a text, and the record keeps the rules
  pub record AreAccepted : Type 0 where
    pub text : IsUtf8 inputs.listed.items
    pub checked : IsChecked inputs.workspace (Ok tt)

  -- what the paths come to, but for those that a glob of the words takes, among the packages to which declared links lead from the members
  pub record ComeTo (changed : Result Changed ChangedError) : Type 0 where
    pub accepted : AreAccepted
    pub globs : List Glob
    pub are_globs : ReadAsGlobs (values_of (codes "ignore") words) globs
    pub graph : TableValue
    pub declared : IsDeclaredGraph inputs.workspace graph
    pub changes : Changes graph (IsNeeded graph) globs (changed_paths words inputs.listed.items) changed

  -- the path is the first that is not below the workspace's root
  pub record IsNotBelow (path : Text) : Type 0 where
    pub place : ℕ
    pub at : slice_get (changed_paths words inputs.listed.items) place ≡ Some path
    pub first : ComeTo (Err (Path place))

-- the record breaks a rule, or has a filter that is refused
pub record RefusesRecord (w : Workspace) (error : SelectError) : Type 0 where
  pub refused : RecordError
  pub checked : IsChecked w (Err refused)
  pub told : error ≡ select_error_of refused

-- why it is not said what changed: memory ran out, the file of paths is no text, or the record, a glob or a path is refused
abbrev pub RefusesChanges : List Row → ChangedInputs → Failure → Type 0
RefusesChanges words inputs (Run run.Memory) = Unit {0}
RefusesChanges words inputs (NotText name) = (name.now ≡ word_or_empty (codes "paths") words) × (IsUtf8 inputs.listed.items → ⊥)
RefusesChanges words inputs (Refused error) = IsUtf8 inputs.listed.items × RefusesRecord inputs.workspace error
RefusesChanges words inputs (BadGlob text error) = AreAccepted words inputs × IsNoGlob (values_of (codes "ignore") words) text.now error
RefusesChanges words inputs (NotBelow path) = IsNotBelow words inputs (string_bytes path)
RefusesChanges words inputs (Run run.Denied) = ⊥
RefusesChanges words inputs (Run run.CannotWrite) = ⊥
RefusesChanges words inputs (Run (run.CommandLine error)) = ⊥
RefusesChanges words inputs (Run (run.CannotRead name)) = ⊥
RefusesChanges words inputs (Run (run.BadFile name error)) = ⊥
RefusesChanges words inputs (BadPartition text) = ⊥

-- all texts read as these globs, or the first that is none; or memory ran out
abbrev pub ReadsGlobs : List Text → Result (Vec GenericGlob Global) Failure → Type 0
ReadsGlobs texts (Ok globs) = ReadAsGlobs texts (map (λ glob. tokens_of glob) globs.items)
ReadsGlobs texts (Err (BadGlob text error)) = IsNoGlob texts text.now error
ReadsGlobs texts (Err failure) = failure ≡ Run run.Memory

-- the paths that changed, or that the file of paths is no text; or memory ran out
abbrev pub GathersPaths : List Row → List ℕ → Result (Vec (Bor Text) Global) Failure → Type 0
GathersPaths words listed (Ok paths) = IsUtf8 listed × (map (λ path. path.now) paths.items ≡ changed_paths words listed)
GathersPaths words listed (Err (NotText name)) = (name.now ≡ word_or_empty (codes "paths") words) × (IsUtf8 listed → ⊥)
GathersPaths words listed (Err failure) = failure ≡ Run run.Memory

-- what changed, or why it is not said
abbrev pub FindsChanges : List Row → ChangedInputs → Result Changed Failure → Type 0
FindsChanges words inputs (Ok changed) = ComeTo words inputs (Ok changed)
FindsChanges words inputs (Err failure) = RefusesChanges words inputs failure

-- ---- what is printed

-- the filter for what changed, and a line feed
abbrev pub filter_line : Changed → Text
filter_line changed = tree_text (changed_tree changed) ++ codes "\n"

-- the filter is printed; or the output takes no more, and some beginning of it is; or there is none, and nothing is printed
abbrev pub PrintsChanged : List Row → ChangedInputs → Result (Unit {0}) Failure → Option Text → Option Text → Type 0
PrintsChanged words inputs (Ok x) old new =
    (changed : Changed) × ComeTo words inputs (Ok changed) × Appends old new (filter_line changed)
PrintsChanged words inputs (Err (Run run.CannotWrite)) old new =
    (changed : Changed) × ComeTo words inputs (Ok changed) × ((rest : Text) × AddsUpTo old new (filter_line changed) rest)
PrintsChanged words inputs (Err failure) old new = RefusesChanges words inputs failure × (new ≡ old)

-- how `changed` ends, by the files that the words name
abbrev pub EndsChanged : List Row → Result (Unit {0}) Failure → Option Text → Option Text → Asked → Type 0
EndsChanged words = EndsReading (ReadsChanges words) (PrintsChanged words)
