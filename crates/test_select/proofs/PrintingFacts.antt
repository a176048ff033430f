-- What a command that prints comes to, by what it read, answered and wrote.
use mathlib.Core.Bool.{false≢true, true≢false}
use Rattle.std.proofs.Common.{◌≡◌, ◌∙◌, ℕ, List, Bool, true, false, String, flat_map, map, string_bytes, refl, ap, ap₂, sym, subst, Result, Ok, Err}
use Rattle.std.specs.Prelude.{Option, IsErrAnd, codes}
use Rattle.std.specs.Result.{is_ok}
use Rattle.std.specs.Io.KnownBytes.{Appends}
use Rattle.std.proofs.lemmas.List.Folds.{flat_map-map}
use Rattle.std.specs.Global.{Global}
use Rattle.clap.specs.Words.{Row}
use Rattle.list_facts.specs.Texts.{texts}
use Rattle.list_facts.specs.Writers.{AddsUpTo}
use Rattle.workspace_record.specs.Features.{FeatureValue}
use Rattle.workspace_record.specs.Records.{Text, Workspace}
use Rattle.record_files.specs.Choices.{label_of}
use Rattle.feature_account_making.specs.AccountText.{LeavesWhereMemoryFails, account_text}
use Rattle.feature_account_making.specs.ExplanationText.{explanation_text}
use Rattle.feature_account_making.specs.RuleLines.{entry_lines}
use Rattle.feature_account_making.specs.SourceViews.{sourced_view}
use Rattle.feature_account_making.specs.Sources.{Sourced, sourced_rules}
use Rattle.feature_account_making.specs.declared.sourced_rule.SourcedRule.{SourcedRule}
use Rattle.feature_account_making.specs.declared.write_account_error.WriteAccountError.{WriteAccountError}
use Rattle.feature_account_making.specs.declared.write_account_error.WriteAccountError.TheVariants as written
use Rattle.test_select_checks.specs.declared.select_error.SelectError.{SelectError}
use Rattle.test_select_files.specs.Files.{Answer}
use Rattle.test_select_files.specs.Reading.{Asks, ReadsQuestion}
use Rattle.test_select_files.specs.Words.{FileNames, files_named, word_or_empty}
use Rattle.test_select_files.specs.declared.inputs.FeatureQuestion.{FeatureQuestion}
use Rattle.test_select_files.specs.declared.run_failure.RunFailure.{RunFailure}
use Rattle.test_select_files.specs.declared.run_failure.RunFailure.TheVariants as run
use Rattle.test_select_files.proofs.ReadingFacts.{ends_by, ends_on}
use Rattle.test_select.specs.AccountCommands.{PrintsText, account_shown, explanation_shown, feature_named, lines_of}
use Rattle.test_select.specs.Failures.{status_of, unwritten}
use Rattle.test_select.specs.Orders.{order_line}
use Rattle.test_select.specs.Printing.{EndsReading, Prints}
use Rattle.test_select.specs.declared.failure.Failure.{Failure}
use Rattle.test_select.specs.declared.failure.Failure.TheVariants.{BadPartition, BadGlob, NotBelow, NotText, Refused, Run}

-- ---- what is printed

module _ {A : Type 0} (Gives : Result A SelectError → Type 0) (IsText : A → Text → Type 0) (is_no : A → Bool) where
  module _ (result : Result (Unit {0}) Failure) (old : Option Text) where
    -- the question is refused
    pub refusal_prints : (e : SelectError) → IsErrAnd result (λ f. f ≡ Refused e) → Gives (Err e) → Prints Gives IsText is_no result old old
    refusal_prints e is given = fails result is
      where
        fails : (r : Result (Unit {0}) Failure) → IsErrAnd r (λ f. f ≡ Refused e) → Prints Gives IsText is_no r old old
        fails (Ok x) is = absurd is
        fails (Err f) is = subst (λ (f : Failure). Prints Gives IsText is_no (Err f) old old) (sym is) (given, refl)

    -- memory ran out before anything was printed
    pub memory_prints : IsErrAnd result (λ f. f ≡ Run run.Memory) → Prints Gives IsText is_no result old old
    memory_prints is = fails result is
      where
        fails : (r : Result (Unit {0}) Failure) → IsErrAnd r (λ f. f ≡ Run run.Memory) → Prints Gives IsText is_no r old old
        fails (Ok x) is = absurd is
        fails (Err f) is = subst (λ (f : Failure). Prints Gives IsText is_no (Err f) old old) (sym is) refl

  module _ (answer : A) (given : Gives (Ok answer)) (text : Text) (is_text : IsText answer text) (old new : Option Text) where
    -- the whole text is printed
    pub text_prints : is_no answer ≡ false → Appends old new text → Prints Gives IsText is_no (Ok tt) old new
    text_prints means holds = record { answer = answer; given = given; means = means; text = text; is_text = is_text; holds = holds }

    -- the text of a no is printed
    pub denial_prints : is_no answer ≡ true → Appends old new text → Prints Gives IsText is_no (Err (Run run.Denied)) old new
    denial_prints means holds = record { answer = answer; given = given; means = means; text = text; is_text = is_text; holds = holds }

    -- the output takes no more
    pub beginning_prints : (result : Result (Unit {0}) Failure) → IsErrAnd result (λ f. f ≡ Run run.CannotWrite) → (rest : Text) × AddsUpTo old new text rest → Prints Gives IsText is_no result old new
    beginning_prints (Ok x) is holds = absurd is
    beginning_prints (Err f) is holds =
        subst (λ (f : Failure). Prints Gives IsText is_no (Err f) old new) (sym is)
        (is_no answer, record { answer = answer; given = given; means = refl; text = text; is_text = is_text; holds = holds })

    -- memory ran out, or the output takes no more
    pub unwritten_prints : (e : WriteAccountError) (result : Result (Unit {0}) Failure) → IsErrAnd result (λ f. (f ≡ Run (unwritten e)) × (status_of f ≡ 1)) → (rest : Text) × AddsUpTo old new text rest → LeavesWhereMemoryFails old (Err e) new → Prints Gives IsText is_no result old new
    unwritten_prints (written.Write fault) (Ok x) is holds left = absurd is
    unwritten_prints (written.Write fault) (Err f) is holds left = beginning_prints (Err f) is.0 holds
    unwritten_prints written.Memory (Ok x) is holds left = absurd is
    unwritten_prints written.Memory (Err f) is holds left = subst (λ (f : Failure). Prints Gives IsText is_no (Err f) old new) (sym is.0) left

    -- the text of the answer is printed by another function
    pub shown_prints : is_no answer ≡ false → (result : Result (Unit {0}) Failure) (shown : Text) → text ≡ shown → PrintsText shown result old new → Prints Gives IsText is_no result old new
    shown_prints means (Ok x) shown same h = text_prints means (subst (λ (t : Text). Appends old new t) (h.is_text ∙ sym same) h.holds)
    shown_prints means (Err (Run run.CannotWrite)) shown same h =
        beginning_prints (Err (Run run.CannotWrite)) refl (subst (λ (t : Text). (rest : Text) × AddsUpTo old new t rest) (h.1.is_text ∙ sym same) h.1.holds)
    shown_prints means (Err (Run run.Memory)) shown same h = h
    shown_prints means (Err (Run run.Denied)) shown same h = absurd (false≢true h.means)
    shown_prints means (Err (Refused error)) shown same h = absurd (false≢true (ap is_ok h.0))
    shown_prints means (Err (Run (run.CommandLine error))) shown same h = absurd h
    shown_prints means (Err (Run (run.CannotRead name))) shown same h = absurd h
    shown_prints means (Err (Run (run.BadFile name error))) shown same h = absurd h
    shown_prints means (Err (BadPartition text)) shown same h = absurd h
    shown_prints means (Err (NotText name)) shown same h = absurd h
    shown_prints means (Err (BadGlob text error)) shown same h = absurd h
    shown_prints means (Err (NotBelow path)) shown same h = absurd h

-- ---- texts of what was answered, by the list that was lent to the writer

-- the lines of an order
pub order_lines : (lent ids : List (String Global)) → lent ≡ ids → flat_map (λ id. order_line (string_bytes id)) lent ≡ flat_map order_line (texts ids)
order_lines lent ids is = subst (λ l. flat_map (λ id. order_line (string_bytes id)) l ≡ flat_map order_line (texts ids)) (sym is) (sym (flat_map-map order_line string_bytes ids))

-- the lines of entries
pub entries_shown : (q : FeatureQuestion) (w : Workspace) (lent listed : List SourcedRule) (entries : List ℕ) → lent ≡ listed → map sourced_view listed ≡ sourced_rules w q.choice q.table → w ≡ q.record.value → entry_lines (map sourced_view lent) entries ≡ lines_of q entries
entries_shown q w lent listed entries is sourced shared =
    ap (λ (l : List SourcedRule). entry_lines (map sourced_view l) entries) is
    ∙ ap (λ (l : List Sourced). entry_lines l entries) (sourced ∙ ap (λ (v : Workspace). sourced_rules v q.choice q.table) shared)

module _ (q : FeatureQuestion) (entries : List ℕ) where
  -- an account with `--readable`
  pub account_for_people : (readable : Bool) → readable ≡ true → lines_of q entries ≡ account_shown q readable entries
  account_for_people true is = refl
  account_for_people false is = absurd (false≢true is)

  -- an account without it
  pub account_as_numbers : (lent : List ℕ) (readable : Bool) → lent ≡ entries → readable ≡ false → account_text lent ≡ account_shown q readable entries
  account_as_numbers lent true is not_readable = absurd (true≢false not_readable)
  account_as_numbers lent false is not_readable = ap account_text is

  -- an explanation with `--readable`
  pub explanation_for_people : (goal : FeatureValue) (readable : Bool) → readable ≡ true → lines_of q entries ≡ explanation_shown q readable goal entries
  explanation_for_people goal true is = refl
  explanation_for_people goal false is = absurd (false≢true is)

  -- an explanation without it
  pub explanation_as_numbers : (goal : FeatureValue) (lent : List ℕ) (readable : Bool) → lent ≡ entries → readable ≡ false → explanation_text goal lent ≡ explanation_shown q readable goal entries
  explanation_as_numbers goal lent true is not_readable = absurd (true≢false not_readable)
  explanation_as_numbers goal lent false is not_readable = ap (explanation_text goal) is

-- ---- what is read first

module _ (words : List Row) (names : FileNames) (named : names ≡ files_named words) (Ends : FeatureQuestion → Result (Unit {0}) Failure → Option Text → Option Text → Type 0)
    {R : List ℕ → Text → Answer → List ℕ → Type 0} {s t : List ℕ} where
  -- the question was read
  pub question_ends : (q : FeatureQuestion) (result : Result (Unit {0}) Failure) (old new : Option Text) → Asks R s t (ReadsQuestion names (Ok q)) → Ends q result old new → Asks R s t (EndsReading (ReadsQuestion (files_named words)) Ends result old new)
  question_ends q result old new asks ends =
      ends_on (ReadsQuestion (files_named words)) (λ x. Ends x result old new) (λ failure. (result ≡ Err (Run failure)) × (new ≡ old)) q
      (subst (λ (n : FileNames). Asks R s t (ReadsQuestion n (Ok q))) named asks) ends

  -- a file of the question fails
  pub question_stops : (failure : RunFailure) (result : Result (Unit {0}) Failure) (old : Option Text) → IsErrAnd result (λ f. f ≡ Run failure) → Asks R s t (ReadsQuestion names (Err failure)) → Asks R s t (EndsReading (ReadsQuestion (files_named words)) Ends result old old)
  question_stops failure (Ok x) old is asks = absurd is
  question_stops failure (Err f) old is asks =
      ends_by (ReadsQuestion (files_named words)) (λ x. Ends x (Err f) old old) (λ failure. (Err f ≡ Err (Run failure)) × (old ≡ old)) failure
      (subst (λ (n : FileNames). Asks R s t (ReadsQuestion n (Err failure))) named asks) (ap (λ (g : Failure). Err g) is, refl)

-- the feature that the words name
pub is_feature_named : (words : List Row) (f : FeatureValue) (owner label : Text) → f ≡ record { package_id = owner; label = label_of label } → owner ≡ word_or_empty (codes "package") words → label ≡ word_or_empty (codes "feature") words → f ≡ feature_named words
is_feature_named words f owner label is is_owner is_label = is ∙ ap₂ named is_owner is_label
  where
    named : Text → Text → FeatureValue
    named p l = record { package_id = p; label = label_of l }
