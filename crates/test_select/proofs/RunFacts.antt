-- How a run of the program ends.
use mathlib.Core.Bool.{false≢true, true≢false}
use Rattle.std.proofs.Common.{◌≡◌, ◌≢◌, ◌⊎◌, ◌∙◌, ◌∷◌, ℕ, Bool, false, List, [], append-nil, ap, ap₂, arith, inl, inr, refl, subst, sym, true, Result, Ok, Err}
use Rattle.std.specs.Prelude.{Option, Some, None, IfErr, IsErrAnd, codes, is_some, option_map, unwrap_or}
use Rattle.std.specs.Option.{option_map_or}
use Rattle.std.specs.Result.{is_ok}
use Rattle.std.specs.Io.KnownBytes.{Keeps}
use Rattle.std.proofs.KnownBytes.{Appends-kept, Keeps-refl, Keeps-trans}
use Rattle.clap.specs.Faults.{is_simple_and_free}
use Rattle.clap.specs.Kinds.{HasKind, Kinds}
use Rattle.clap.specs.Values.{kind_of}
use Rattle.clap.specs.Words.{App, HasMatchesOf, Row, fault_of, is_simple, subcommand_name_of, subcommand_rows_of}
use Rattle.clap.specs.declared.error.Error.{Error}
use Rattle.clap.specs.declared.error.ErrorKind.TheVariants.{DisplayHelp, DisplayVersion, OutOfMemory}
use Rattle.clap.specs.declared.parser.ArgMatches.{ArgMatches}
use Rattle.workspace_record.specs.Records.{Text}
use Rattle.record_files.specs.Accounts.{AccountValue}
use Rattle.test_select_checks.specs.declared.select_error.SelectError.{SelectError}
use Rattle.test_select_files.specs.Apps.{Lent, one_among}
use Rattle.test_select_files.specs.Files.{Answer}
use Rattle.test_select_files.specs.Reading.{Asked, Asks, ReadsQuestion}
use Rattle.test_select_files.specs.Verdicts.{EndsCheck, PrintsVerdict}
use Rattle.test_select_files.specs.Words.{files_named, is_given}
use Rattle.test_select_files.specs.declared.inputs.FeatureQuestion.{FeatureQuestion}
use Rattle.test_select_files.specs.declared.run_failure.RunFailure.{RunFailure}
use Rattle.test_select_files.specs.declared.run_failure.RunFailure.TheVariants as run
use Rattle.test_select_files.specs.Mistakes.{IsBadLine}
use Rattle.test_select_files.proofs.ReadingFacts.{asks_such}
use Rattle.test_select_files.proofs.RunFacts.{no_request_told}
use Rattle.test_select.specs.AccountCommands.{PrintsAccount, PrintsExplanation, feature_named}
use Rattle.test_select.specs.Asking.{AsksNoPart, RefusesNoPart}
use Rattle.test_select.specs.Changes.{PrintsChanged, ReadsChanges}
use Rattle.test_select.specs.Failures.{status_of}
use Rattle.test_select.specs.FeatureCommands.{PrintsFeatures, PrintsOrder, PrintsRules}
use Rattle.test_select.specs.Printing.{EndsReading, Prints}
use Rattle.test_select.specs.Running.{EndsAs, EndsIfAny, EndsRun, EndsTask, EndsVerdict, HasNoPart, Means, RefusesMistakes, as_run}
use Rattle.test_select.specs.Selections.{PrintsBinaries, PrintsTests, PrintsWhy, ReadsTests}
use Rattle.test_select.specs.Tasks.{IsSelector, selector_by, task_named}
use Rattle.test_select.specs.declared.changes.ChangedInputs.{ChangedInputs}
use Rattle.test_select.specs.declared.failure.Failure.{Failure}
use Rattle.test_select.specs.declared.failure.Failure.TheVariants.{BadPartition, BadGlob, NotBelow, NotText, Refused, Run}
use Rattle.test_select.specs.declared.tasks.Task.{Task}
use Rattle.test_select.specs.declared.tasks.Task.TheVariants as task
use Rattle.test_select.proofs.TaskFacts.{selector_is_free, selector_is_simple}

-- ---- what was printed is written out, or not

module _ {A : Type 0} (Gives : Result A SelectError → Type 0) (IsText : A → Text → Type 0) (is_no : A → Bool) (old mid new : Option Text) (kept : Keeps mid new) where
  -- all of it is
  flushed_prints : Prints Gives IsText is_no (Ok tt) old mid → Prints Gives IsText is_no (Ok tt) old new
  flushed_prints p = record {
    answer = p.answer;
    given = p.given;
    means = p.means;
    text = p.text;
    is_text = p.is_text;
    holds = Appends-kept old mid new p.text p.holds kept;
  }

  -- the output takes no more
  unflushed_prints : Prints Gives IsText is_no (Ok tt) old mid → Prints Gives IsText is_no (Err (Run run.CannotWrite)) old new
  unflushed_prints p = (
    false,
    record {
      answer = p.answer;
      given = p.given;
      means = p.means;
      text = p.text;
      is_text = p.is_text;
      holds = ([], record { front = p.text; whole = sym (append-nil p.text); added = Appends-kept old mid new p.text p.holds kept });
    },
  )

-- what printed all ends so in the end
pub record Further (result : Result (Unit {0}) Failure) (old mid new : Option Text) : Type 1 where
  pub prints : {A : Type 0} (Gives : Result A SelectError → Type 0) (IsText : A → Text → Type 0) (is_no : A → Bool) → Prints Gives IsText is_no (Ok tt) old mid → Prints Gives IsText is_no result old new
  pub checked : Result (Unit {0}) RunFailure
  pub same : result ≡ as_run checked
  pub verdict : (q : FeatureQuestion) (account : AccountValue) → PrintsVerdict q account (Ok tt) old mid → PrintsVerdict q account checked old new
  pub changed : (words : List Row) (inputs : ChangedInputs) → PrintsChanged words inputs (Ok tt) old mid → PrintsChanged words inputs result old new
  pub keeps : Keeps old mid → Keeps old new

module _ (old mid new : Option Text) (kept : Keeps mid new) where
  -- where all was written out
  pub flushed : Further (Ok tt) old mid new
  flushed = record {
    prints = λ G T n p. flushed_prints G T n old mid new kept p;
    checked = Ok tt;
    same = refl;
    verdict = λ q account p. (p.0, Appends-kept old mid new _ p.1 kept);
    changed = λ words inputs p. (p.0, p.1, Appends-kept old mid new _ p.2 kept);
    keeps = λ before. Keeps-trans old mid new before kept;
  }

  -- where the output takes no more
  pub unflushed : Further (Err (Run run.CannotWrite)) old mid new
  unflushed = record {
    prints = λ G T n p. unflushed_prints G T n old mid new kept p;
    checked = Err run.CannotWrite;
    same = refl;
    verdict = λ q account p. (_, p.0, ([], record { front = _; whole = sym (append-nil _); added = Appends-kept old mid new _ p.1 kept }));
    changed = λ words inputs p. (p.0, p.1, ([], record { front = _; whole = sym (append-nil _); added = Appends-kept old mid new _ p.2 kept }));
    keeps = λ before. Keeps-trans old mid new before kept;
  }

module _ {result : Result (Unit {0}) Failure} {old mid new : Option Text} (further : Further result old mid new) where
  -- what was read stays
  ends_further : {X : Type 0} (Reads : Result X RunFailure → Asked → Type 0) (Ends : X → Result (Unit {0}) Failure → Option Text → Option Text → Type 0) (asked : Asked) → ((x : X) → Ends x (Ok tt) old mid → Ends x result old new) → EndsReading Reads Ends (Ok tt) old mid asked → EndsReading Reads Ends result old new asked
  ends_further Reads Ends asked goes ends =
      elim ends [
        | inl on ↦ inl (record { value = on.value; read = on.read; ends = goes on.value on.ends })
        | inr by ↦ absurd (true≢false (ap is_ok by.stops.0))
      ]

  -- a check likewise
  check_further : (words : List Row) (asked : Asked) (before : Result (Unit {0}) RunFailure) → Ok tt ≡ as_run before → EndsCheck words before old mid asked → EndsVerdict words result old new asked
  check_further words asked (Ok x) is ends = (
    further.checked,
    further.same,
    elim ends [
      | inl on ↦ inl (record { value = on.value; read = on.read; ends = further.verdict on.value.0 on.value.1 on.ends })
      | inr by ↦ absurd (true≢false (ap is_ok by.stops.0))
    ],
  )
  check_further words asked (Err f) is ends = absurd (true≢false (ap is_ok is))

  -- each task
  task_further : (t : Task) (words : List Row) (asked : Asked) → EndsTask t words (Ok tt) old mid asked → EndsTask t words result old new asked
  task_further task.Tests words asked = ends_further (ReadsTests words) (λ files. PrintsTests words files.0 files.1) asked (λ x. further.prints _ _ _)
  task_further task.Binaries words asked = ends_further (ReadsQuestion (files_named words)) (PrintsBinaries words) asked (λ x. further.prints _ _ _)
  task_further task.Changed words asked = ends_further (ReadsChanges words) (PrintsChanged words) asked (further.changed words)
  task_further task.Why words asked = ends_further (ReadsTests words) (λ files. PrintsWhy words files.0 files.1) asked (λ x. further.prints _ _ _)
  task_further task.Account words asked = ends_further (ReadsQuestion (files_named words)) (PrintsAccount (is_given (codes "readable") words)) asked (λ x. further.prints _ _ _)
  task_further task.Check words asked = λ ends. check_further words asked ends.0 ends.1 ends.2
  task_further task.Explain words asked = ends_further (ReadsQuestion (files_named words)) (PrintsExplanation (is_given (codes "readable") words) (feature_named words)) asked (λ x. further.prints _ _ _)
  task_further task.Order words asked = ends_further (ReadsQuestion (files_named words)) PrintsOrder asked (λ x. further.prints _ _ _)
  task_further task.Features words asked = ends_further (ReadsQuestion (files_named words)) PrintsFeatures asked (λ x. further.prints _ _ _)
  task_further task.Rules words asked = ends_further (ReadsQuestion (files_named words)) PrintsRules asked (λ x. further.prints _ _ _)

  -- the task that is asked for
  pub run_further : (below : Option (Text × List Row)) (asked : Asked) → EndsRun below (Ok tt) old mid asked → EndsRun below result old new asked
  run_further None asked ends = (further.keeps ends.0, ends.1)
  run_further (Some below) asked ends = go (task_named below.0) ends
    where
      go : (t : Option Task) → EndsIfAny t below.1 (Ok tt) old mid asked → EndsIfAny t below.1 result old new asked
      go (Some t) h = task_further t below.1 asked h
      go None h = (further.keeps h.0, h.1)

module _ {R : List ℕ → Text → Answer → List ℕ → Type 0} {s t : List ℕ} (below : Option (Text × List Row)) (old mid new : Option Text) (kept : Keeps mid new) where
  -- a run whose output is flushed
  pub flushed_ends : Asks R s t (EndsRun below (Ok tt) old mid) → Asks R s t (EndsRun below (Ok tt) old new)
  flushed_ends ends = asks_such ends (run_further (flushed old mid new kept) below)

  -- a run whose output takes no more
  pub unflushed_ends : (result : Result (Unit {0}) Failure) → IsErrAnd result (λ f. f ≡ Run run.CannotWrite) → Asks R s t (EndsRun below (Ok tt) old mid) → Asks R s t (EndsRun below result old new)
  unflushed_ends (Ok x) is ends = absurd is
  unflushed_ends (Err f) is ends =
      subst (λ (g : Failure). Asks R s t (EndsRun below (Err g) old new)) (sym is)
      (asks_such ends (run_further (unflushed old mid new kept) below))

-- ---- the task that the words name

-- two parts of a value
abbrev both : {X A B : Type 0} → (X → A) → (X → B) → X → A × B
both f h x = (f x, h x)

-- a value of which both are known
both_of : {X A B : Type 0} (f : X → A) (h : X → B) (o : Option X) (a : A) (b : B) → Some a ≡ option_map f o → Some b ≡ option_map (λ (p : A × B). p.1) (option_map (both f h) o) → option_map (both f h) o ≡ Some (a, b)
both_of f h (Some x) a b p q = sym (ap₂ (λ y z. Some (y, z)) (ap (λ o. unwrap_or o a) p) (ap (λ o. unwrap_or o b) q))
both_of f h None a b p q = absurd (true≢false (ap is_some p))

module _ (m : ArgMatches) (name : Text) (words : List Row) (named : Some name ≡ subcommand_name_of m) (behind : Some words ≡ option_map (λ (p : Text × List Row). p.1) (subcommand_rows_of m)) where
  below_is : subcommand_rows_of m ≡ Some (name, words)
  below_is = both_of _ _ _ name words named behind

  module _ {R : List ℕ → Text → Answer → List ℕ → Type 0} {s t : List ℕ} (old new : Option Text) where
    -- ends the run
    pub asked_task_ends : (task : Task) (result : Result (Unit {0}) Failure) → Some task ≡ task_named name → Asks R s t (EndsTask task words result old new) → Asks R s t (EndsRun (subcommand_rows_of m) result old new)
    asked_task_ends task result found ends =
        asks_such ends (λ a h. subst (λ (o : Option (Text × List Row)). EndsRun o result old new a) (sym below_is)
        (subst (λ (o : Option Task). EndsIfAny o words result old new a) found h))

  module _ {R : List ℕ → Text → Answer → List ℕ → Type 0} {s : List ℕ} (old : Option Text) where
    -- there is none with this name
    pub no_task_ends : (result : Result (Unit {0}) Failure) → None ≡ task_named name → Asks R s s (EndsRun (subcommand_rows_of m) result old old)
    no_task_ends result found = record {
      asked = [];
      answered = refl;
      holds = subst (λ (o : Option (Text × List Row)). EndsRun o result old old []) (sym below_is)
          (subst (λ (o : Option Task). EndsIfAny o words result old old []) found (Keeps-refl old, refl));
    }

-- ---- memory ran out before any file was asked for

module _ (old : Option Text) where
  task_memory : (t : Task) (words : List Row) → EndsTask t words (Err (Run run.Memory)) old old []
  task_memory task.Tests words = inr (record { failure = run.Memory; fails = inl (inl tt); stops = (refl, refl) })
  task_memory task.Binaries words = inr (record { failure = run.Memory; fails = inl tt; stops = (refl, refl) })
  task_memory task.Changed words = inr (record { failure = run.Memory; fails = inl tt; stops = (refl, refl) })
  task_memory task.Why words = inr (record { failure = run.Memory; fails = inl (inl tt); stops = (refl, refl) })
  task_memory task.Account words = inr (record { failure = run.Memory; fails = inl tt; stops = (refl, refl) })
  task_memory task.Check words = (Err run.Memory, refl, inr (record { failure = run.Memory; fails = inl (inl tt); stops = (refl, refl) }))
  task_memory task.Explain words = inr (record { failure = run.Memory; fails = inl tt; stops = (refl, refl) })
  task_memory task.Order words = inr (record { failure = run.Memory; fails = inl tt; stops = (refl, refl) })
  task_memory task.Features words = inr (record { failure = run.Memory; fails = inl tt; stops = (refl, refl) })
  task_memory task.Rules words = inr (record { failure = run.Memory; fails = inl tt; stops = (refl, refl) })

  run_memory : (below : Option (Text × List Row)) → EndsRun below (Err (Run run.Memory)) old old []
  run_memory None = (Keeps-refl old, refl)
  run_memory (Some below) = go (task_named below.0)
    where
      go : (t : Option Task) → EndsIfAny t below.1 (Err (Run run.Memory)) old old []
      go (Some t) = task_memory t below.1
      go None = (Keeps-refl old, refl)

module _ {R : List ℕ → Text → Answer → List ℕ → Type 0} {s : List ℕ} where
  -- whatever the words ask for
  pub memory_ends : (result : Result (Unit {0}) Failure) (old new : Option Text) → result ≡ Err (Run run.Memory) → new ≡ old → (below : Option (Text × List Row)) → Asks R s s (EndsAs below result old new)
  memory_ends result old new is same below =
      subst (λ (r : Result (Unit {0}) Failure). Asks R s s (EndsAs below r old new)) (sym is)
      (subst (λ (o : Option Text). Asks R s s (EndsAs below (Err (Run run.Memory)) old o)) (sym same)
      (record { asked = []; answered = refl; holds = run_memory old below }))

-- where what is shown in place of a run fails for want of memory, so does the run
pub shown_memory : (failure : RunFailure) (result : Result (Unit {0}) Failure) (shown : Result (Unit {0}) RunFailure) → IsErrAnd result (λ f. f ≡ Run failure) → shown ≡ Err failure → shown ≡ Err run.Memory → result ≡ Err (Run run.Memory)
shown_memory failure (Ok x) shown is failed ran_out = absurd is
shown_memory failure (Err f) shown is failed ran_out =
    let same : failure ≡ run.Memory = cc in
    ap (λ (g : Failure). Err g) is ∙ ap (λ (y : RunFailure). Err (Run y)) same

-- ---- words that ask for no part

-- they stand behind the name of a task
no_part : (below : Option (Text × List Row)) (text : Text) → AsksNoPart (option_map_or (λ b. b.1) below []) text → HasNoPart below text
no_part (Some b) text asks = asks
no_part None text asks = absurd (false≢true (ap is_some asks.0))

-- words that are not refused do not
a_part : (below : Option (Text × List Row)) → RefusesNoPart (option_map_or (λ b. b.1) below []) (Ok tt) → (text : Text) → HasNoPart below text → ⊥
a_part (Some b) asks text none = asks text none
a_part None asks text none = none

module _ {R : List ℕ → Text → Answer → List ℕ → Type 0} {s : List ℕ} (below : Option (Text × List Row)) (old : Option Text) where
  refused_as : (f : Failure) → RefusesNoPart (option_map_or (λ b. b.1) below []) (Err f) → Asks R s s (EndsAs below (Err f) old old)
  refused_as (BadPartition text) refuses = record { asked = []; answered = refl; holds = (no_part below text.now refuses, refl, refl) }
  refused_as (Run failure) refuses = absurd refuses
  refused_as (Refused error) refuses = absurd refuses
  refused_as (NotText name) refuses = absurd refuses
  refused_as (BadGlob text error) refuses = absurd refuses
  refused_as (NotBelow path) refuses = absurd refuses

  -- they are refused before any file is read
  pub refused_ends : (f : Failure) (result : Result (Unit {0}) Failure) → IsErrAnd result (λ g. g ≡ f) → RefusesNoPart (option_map_or (λ b. b.1) below []) (Err f) → Asks R s s (EndsAs below result old old)
  refused_ends f (Ok x) is refuses = absurd is
  refused_ends f (Err g) is refuses = subst (λ (h : Failure). Asks R s s (EndsAs below (Err h) old old)) (sym is) (refused_as f refuses)

-- other words end as their task does
pub as_ends : (below : Option (Text × List Row)) (result : Result (Unit {0}) Failure) (old new : Option Text) (asked : Asked) → RefusesNoPart (option_map_or (λ b. b.1) below []) (Ok tt) → IfErr result (λ f. status_of f ≡ 1) → EndsRun below result old new asked → EndsAs below result old new asked
as_ends below (Ok x) old new asked part one ends = (a_part below part, ends)
as_ends below (Err (Run run.Memory)) old new asked part one ends = ends
as_ends below (Err (Run (run.CommandLine error))) old new asked part one ends = absurd (omega arith)
as_ends below (Err (Run (run.CannotRead name))) old new asked part one ends = (a_part below part, ends)
as_ends below (Err (Run (run.BadFile name error))) old new asked part one ends = (a_part below part, ends)
as_ends below (Err (Run run.Denied)) old new asked part one ends = (a_part below part, ends)
as_ends below (Err (Run run.CannotWrite)) old new asked part one ends = (a_part below part, ends)
as_ends below (Err (Refused error)) old new asked part one ends = (a_part below part, ends)
as_ends below (Err (NotText name)) old new asked part one ends = (a_part below part, ends)
as_ends below (Err (BadGlob text error)) old new asked part one ends = (a_part below part, ends)
as_ends below (Err (NotBelow path)) old new asked part one ends = (a_part below part, ends)
as_ends below (Err (BadPartition text)) old new asked part one ends = absurd (omega arith)

-- ---- what words mean

-- the formats of a report, lent from somewhere
abbrev some_formats : Lent
some_formats = record {
  ref_ptr = (0, 0);
  now = record { ref_ptr = (0, 0); now = codes "lines" } ∷ record { ref_ptr = (0, 0); now = codes "json" } ∷ [];
}

module _ (words : List Text) (Holds : Option (Text × List Row) → Type 0) where
  -- this holds whatever they mean
  pub means_any : ((below : Option (Text × List Row)) → Holds below) → Means words Holds
  means_any all = record {
    app = selector_by (one_among some_formats (codes "format"));
    is_selector = record { formats = some_formats; named = refl; told = refl };
    holds = λ none. all _;
  }

  -- it holds of the matches that were made of them
  pub means_matches : (a : App) (m : ArgMatches) → IsSelector a → HasMatchesOf a words m → Holds (subcommand_rows_of m) → Means words Holds
  means_matches a m is has holds = record {
    app = a;
    is_selector = is;
    holds = λ none. subst Holds (has (ap is_simple is.told ∙ selector_is_simple is.formats)).1 holds;
  }

  -- they have a fault, or memory ran out
  pub means_fault : (a : App) (e : Error) → IsSelector a → (is_simple_and_free a ≡ true → HasKind (fault_of a words) e) → (kind_of e ≡ OutOfMemory → (below : Option (Text × List Row)) → Holds below) → Means words Holds
  means_fault a e is kinds all = record {
    app = a;
    is_selector = is;
    holds = λ none.
        let free = ap is_simple_and_free is.told ∙ selector_is_free is.formats in
        all (elim (subst (λ (k : Kinds). HasKind k e) none (kinds free)) [ inl h ↦ h | inr h ↦ absurd h ]) _;
  }

-- ---- words that are mistakes

module _ (words : List Text) {s : List ℕ} {old : Option Text} where
  -- memory ran out before they were looked at
  pub memory_refuses : (result : Result (Unit {0}) Failure) → IsErrAnd result (λ f. f ≡ Run run.Memory) → RefusesMistakes words s s old old result
  memory_refuses (Ok x) is = absurd is
  memory_refuses (Err f) is = record {
    app = selector_by (one_among some_formats (codes "format"));
    is_selector = record { formats = some_formats; named = refl; told = refl };
    refuses = λ mistakes. (inl is, refl, refl);
  }

module _ (words : List Text) (a : App) (is : IsSelector a) where
  free : is_simple_and_free a ≡ true
  free = ap is_simple_and_free is.told ∙ selector_is_free is.formats

  -- words that were taken are none
  pub taken_refuses : {s t : List ℕ} {old new : Option Text} (result : Result (Unit {0}) Failure) → (is_simple_and_free a ≡ true → fault_of a words ≡ []) → RefusesMistakes words s t old new result
  taken_refuses result none = record { app = a; is_selector = is; refuses = λ mistakes. absurd (mistakes.some (none free)) }

  -- the error of such words is shown as one
  pub shown_refuses : {s : List ℕ} {old new : Option Text} (e : Error) (result : Result (Unit {0}) Failure) → (is_simple_and_free a ≡ true → HasKind (fault_of a words) e) → (kind_of e ≢ DisplayHelp → kind_of e ≢ DisplayVersion → IsErrAnd result (λ f. (f ≡ Run run.Memory) ⊎ (status_of f ≡ 2)) × (new ≡ old)) → RefusesMistakes words s s old new result
  shown_refuses e result kinds refused = record {
    app = a;
    is_selector = is;
    refuses = λ mistakes.
        let told = no_request_told a a words e free refl kinds mistakes in
        let bad = refused told.0 told.1 in
        (bad.0, bad.1, refl);
  }

-- the failure of what is shown is that of the run
pub run_is_bad : (failure : RunFailure) (result : Result (Unit {0}) Failure) → IsErrAnd result (λ f. f ≡ Run failure) → IsBadLine failure → IsErrAnd result (λ f. (f ≡ Run run.Memory) ⊎ (status_of f ≡ 2))
run_is_bad failure (Ok x) is bad = absurd is
run_is_bad failure (Err f) is bad = subst (λ (g : Failure). (g ≡ Run run.Memory) ⊎ (status_of g ≡ 2)) (sym is) (elim bad [ inl h ↦ inl (ap (λ (x : RunFailure). Run x) h) | inr h ↦ inr h ])
