-- What a command that selects or explains comes to, by the files that it read and what it answered.
use Rattle.std.proofs.Common.{◌≡◌, ◌∙◌, ℕ, List, Bool, false, true≢false, refl, ap, sym, subst, inl, Result, Ok, Err, String, Vec, Global, string_bytes}
use Rattle.std.specs.Prelude.{Option, Some, None, IsErrAnd, codes, is_some, option_map}
use Rattle.std.specs.BTreeMap.{get_by_text}
use Rattle.std.specs.Io.KnownBytes.{Appends}
use Rattle.clap.specs.Words.{Row, first_of}
use Rattle.list_facts.specs.Texts.{texts}
use Rattle.list_facts.specs.Writers.{AddsUpTo}
use Rattle.workspace_record.specs.Records.{Text}
use Rattle.test_select_checks.specs.declared.select_error.SelectError.{SelectError}
use Rattle.test_select_files.specs.Files.{Answer}
use Rattle.test_select_files.specs.Reading.{Asked, Asks}
use Rattle.test_select_files.specs.Words.{word_or_empty}
use Rattle.test_select_files.specs.declared.inputs.FeatureQuestion.{FeatureQuestion}
use Rattle.test_select_files.specs.declared.run_failure.RunFailure.{RunFailure}
use Rattle.test_select_files.specs.declared.run_failure.RunFailure.TheVariants as run
use Rattle.test_select_files.proofs.ReadingFacts.{ends_by, ends_on}
use Rattle.test_select.specs.Printing.{EndsReading, Prints, never}
use Rattle.test_select.specs.Asking.{AsksForTestsOf, asks_in, filters_in, scope_in}
use Rattle.test_select.specs.Runs.{AnswersQuestion, ExplainsQuestion}
use Rattle.test_select_tests.specs.Choosing.{BlamesUnlisted}
use Rattle.test_select_tests.specs.declared.asked_binaries.AskedBinaries.{AskedBinaries}
use Rattle.test_select_tests.specs.declared.scope.LinkScope.{LinkScope}
use Rattle.test_select.specs.Selections.{IsTextOf, Listings, PrintsShown, ExplainsBy, SaysWhy, Selects, ShowsTests, asks_for_json, tests_of, unblamed}
use Rattle.nextest_binaries.specs.Listers.{Shown, listing_in, unasked}
use Rattle.test_select_checks.specs.declared.select_error.SelectError.TheVariants.{BadListing, Filter, Lister, Memory, Record, UnknownExtra}
use Rattle.test_select_tests.specs.Selections.{Selected}
use Rattle.test_select_tests.specs.declared.reason.Reason.{Reason}
use Rattle.test_select.specs.declared.failure.Failure.{Failure}
use Rattle.test_select.specs.declared.failure.Failure.TheVariants.{BadPartition, BadGlob, NotBelow, NotText, Refused, Run}
use Rattle.test_select.proofs.PrintingFacts.{beginning_prints, memory_prints, text_prints}

-- ---- how a command ends that reads these

module _ {X : Type 0} (Reads : Result X RunFailure → Asked → Type 0) (Ends : X → Result (Unit {0}) Failure → Option Text → Option Text → Type 0)
    {R : List ℕ → Text → Answer → List ℕ → Type 0} {s t : List ℕ} where
  -- the files were read
  pub reading_ends : (x : X) (result : Result (Unit {0}) Failure) (old new : Option Text) → Asks R s t (Reads (Ok x)) → Ends x result old new → Asks R s t (EndsReading Reads Ends result old new)
  reading_ends x result old new asks ends =
      ends_on Reads (λ x. Ends x result old new) (λ failure. (result ≡ Err (Run failure)) × (new ≡ old)) x asks ends

  -- a file fails
  pub reading_stops : (failure : RunFailure) (result : Result (Unit {0}) Failure) (old : Option Text) → IsErrAnd result (λ f. f ≡ Run failure) → Asks R s t (Reads (Err failure)) → Asks R s t (EndsReading Reads Ends result old old)
  reading_stops failure (Ok x) old is asks = absurd is
  reading_stops failure (Err f) old is asks =
      ends_by Reads (λ x. Ends x (Err f) old old) (λ failure. (Err f ≡ Err (Run failure)) × (old ≡ old)) failure asks (ap (λ (g : Failure). Err g) is, refl)

-- ---- what is printed

module _ {A : Type 0} (Gives : Result A SelectError → Type 0) (IsText : A → Text → Type 0) (is_no : A → Bool) (answer : A) (given : Gives (Ok answer)) (old new : Option Text) where
  -- a text of an answer that is no no is printed by another function
  pub form_prints : (Shows : Text → Type 0) → is_no answer ≡ false → ((text : Text) → Shows text → IsText answer text) → (result : Result (Unit {0}) Failure) → Prints (λ (given : Result (Unit {0}) SelectError). given ≡ Ok tt) (λ nothing text. Shows text) never result old new → Prints Gives IsText is_no result old new
  form_prints Shows means shown (Ok x) h = text_prints Gives IsText is_no answer given h.text (shown h.text h.is_text) old new means h.holds
  form_prints Shows means shown (Err (Run run.CannotWrite)) h =
      beginning_prints Gives IsText is_no answer given h.1.text (shown h.1.text h.1.is_text) old new (Err (Run run.CannotWrite)) refl h.1.holds
  form_prints Shows means shown (Err (Run run.Memory)) h = h
  form_prints Shows means shown (Err (Run run.Denied)) h = absurd (cc h.means)
  form_prints Shows means shown (Err (Refused error)) h = absurd (cc h.0)
  form_prints Shows means shown (Err (Run (run.CommandLine error))) h = absurd h
  form_prints Shows means shown (Err (Run (run.CannotRead name))) h = absurd h
  form_prints Shows means shown (Err (Run (run.BadFile name error))) h = absurd h
  form_prints Shows means shown (Err (BadPartition text)) h = absurd h
  form_prints Shows means shown (Err (NotText name)) h = absurd h
  form_prints Shows means shown (Err (BadGlob text error)) h = absurd h
  form_prints Shows means shown (Err (NotBelow path)) h = absurd h

-- ---- the text of a selection

module _ (is_json : Bool) (tests : List (Text × Text)) where
  -- memory ran out before the text was made
  pub form_unmade : (result : Result (Unit {0}) Failure) (old : Option Text) → IsErrAnd result (λ f. f ≡ Run run.Memory) → PrintsShown is_json tests result old old
  form_unmade = memory_prints (λ (given : Result (Unit {0}) SelectError). given ≡ Ok tt) (λ nothing text. ShowsTests is_json tests text) never

  module _ (text : Text) (shows : ShowsTests is_json tests text) where
    -- the output takes no more
    pub form_begun : (old new : Option Text) (result : Result (Unit {0}) Failure) → IsErrAnd result (λ f. f ≡ Run run.CannotWrite) → (rest : Text) × AddsUpTo old new text rest → PrintsShown is_json tests result old new
    form_begun = beginning_prints (λ (given : Result (Unit {0}) SelectError). given ≡ Ok tt) (λ nothing text. ShowsTests is_json tests text) never tt refl text shows

    -- the whole text is printed
    pub form_written : (old new : Option Text) → Appends old new text → PrintsShown is_json tests (Ok tt) old new
    form_written old new = text_prints (λ (given : Result (Unit {0}) SelectError). given ≡ Ok tt) (λ nothing text. ShowsTests is_json tests text) never tt refl text shows old new refl

-- in the form that is asked for
pub form_asked : (asked is_json : Bool) (tests : List (Text × Text)) (result : Result (Unit {0}) Failure) (old new : Option Text) → asked ≡ is_json → PrintsShown is_json tests result old new → PrintsShown asked tests result old new
form_asked asked is_json tests result old new is h = subst (λ (b : Bool). PrintsShown b tests result old new) (sym is) h

-- in the form that the words ask for, of the part that they ask for
pub text_of_part : (words : List Row) (selection : Selected) (is_json : Bool) (tests : List (Text × Text)) → is_json ≡ asks_for_json words → (part : Option (ℕ × ℕ)) × AsksForTestsOf words part × (tests ≡ tests_of part selection.chosen) → (text : Text) → ShowsTests is_json tests text → IsTextOf words selection text
text_of_part words selection is_json tests form of text shows =
    (of.0, of.1, subst (λ (b : Bool). ShowsTests b (tests_of of.0 selection.chosen) text) form (subst (λ (l : List (Text × Text)). ShowsTests is_json l text) of.2 shows))

-- ---- where memory ran out before a lister was made

module _ (words : List Row) (q : FeatureQuestion) (listings : Listings) where
  -- an explanation without one
  pub memory_explains : (result : Result Reason SelectError) → IsErrAnd result (λ e. e ≡ Memory) → ExplainsBy words q listings result
  memory_explains (Ok x) is = absurd is
  memory_explains (Err e) is = subst (λ (e : SelectError). ExplainsBy words q listings (Err e)) (sym is) (unasked listings, inl refl)

-- ---- by a lister that was asked nothing before

module _ (words : List Row) (q : FeatureQuestion) (listings : Listings) where
  -- the selection of such a lister
  pub selected_by : (result : Result Selected SelectError) (scope : LinkScope) (texts : List Text) (asks : AskedBinaries) (new : Shown) → scope ≡ scope_in words → texts ≡ filters_in words → asks ≡ asks_in words → AnswersQuestion q scope texts asks (unasked listings) result new → BlamesUnlisted listings result → Selects words q listings result
  selected_by result scope texts asks new is_scope are_texts are_asks h missing = (
    new,
    subst (λ (s : LinkScope). AnswersQuestion q s (filters_in words) (asks_in words) (unasked listings) result new) is_scope
        (subst (λ (l : List Text). AnswersQuestion q scope l (asks_in words) (unasked listings) result new) are_texts
        (subst (λ (a : AskedBinaries). AnswersQuestion q scope texts a (unasked listings) result new) are_asks h)),
    missing,
  )

  -- what such a lister explains
  pub explained_by : (result : Result Reason SelectError) (scope : LinkScope) (texts : List Text) (id : Text) (test : Option Text) (old new : Shown) → scope ≡ scope_in words → texts ≡ filters_in words → id ≡ word_or_empty (codes "binary") words → test ≡ first_of (codes "test") words → old ≡ unasked listings → ExplainsQuestion q scope texts id test old result new → ExplainsBy words q listings result
  explained_by result scope texts id test old new is_scope are_texts is_id is_test is_old h = (
    new,
    subst (λ (s : LinkScope). ExplainsQuestion q s (filters_in words) (word_or_empty (codes "binary") words) (first_of (codes "test") words) (unasked listings) result new) is_scope
        (subst (λ (l : List Text). ExplainsQuestion q scope l (word_or_empty (codes "binary") words) (first_of (codes "test") words) (unasked listings) result new) are_texts
        (subst (λ (i : Text). ExplainsQuestion q scope texts i (first_of (codes "test") words) (unasked listings) result new) is_id
        (subst (λ (t : Option Text). ExplainsQuestion q scope texts id t (unasked listings) result new) is_test
        (subst (λ (s : Shown). ExplainsQuestion q scope texts id test s result new) is_old h)))),
  )

-- ---- the binary that is blamed

-- it has the id of which it was asked
blamed_id : (q : FeatureQuestion) (scope : LinkScope) (texts : List Text) (id : Text) (test : Option Text) (old new : Shown) (named : String Global) → ExplainsQuestion q scope texts id test old (Err (Lister named)) new → string_bytes named ≡ id
blamed_id q scope texts id (Some t) old new named h = h.told.3.1.0 ∙ h.told.2
blamed_id q scope texts id None old new named h = absurd h.told.3.1

-- an id without a listing
unlisted : (listings : Listings) (id : Text) → is_some (get_by_text listings id) ≡ false → listing_in listings id ≡ None
unlisted listings id none = go (get_by_text listings id) none
  where
    go : (o : Option (Vec (String Global) Global)) → is_some o ≡ false → option_map (λ (l : Vec (String Global) Global). texts l.items) o ≡ None
    go None e = refl
    go (Some l) e = absurd (true≢false e)

module _ (words : List Row) (q : FeatureQuestion) (listings : Listings) where
  -- it has no listing
  pub unlisted_says : (result : Result Reason SelectError) (id : Text) → id ≡ word_or_empty (codes "binary") words → false ≡ is_some (get_by_text listings id) → ExplainsBy words q listings result → SaysWhy words q listings result
  unlisted_says result id is none explains = (
    explains,
    λ named blamed.
        let blames = subst (λ (r : Result Reason SelectError). ExplainsQuestion q (scope_in words) (filters_in words) (word_or_empty (codes "binary") words) (first_of (codes "test") words) (unasked listings) r explains.0) blamed explains.1 in
        let same : string_bytes named ≡ id = blamed_id q (scope_in words) (filters_in words) (word_or_empty (codes "binary") words) (first_of (codes "test") words) (unasked listings) explains.0 named blames ∙ sym is in
        subst (λ t. listing_in listings t ≡ None) (sym same) (unlisted listings id (sym none)),
  )

  -- it has one, so memory ran out
  pub unblamed_says : (result : Result Reason SelectError) → ExplainsBy words q listings result → SaysWhy words q listings (unblamed result)
  unblamed_says (Ok x) explains = (explains, λ named same. absurd cc)
  unblamed_says (Err (Record e)) explains = (explains, λ named same. absurd cc)
  unblamed_says (Err (UnknownExtra place)) explains = (explains, λ named same. absurd cc)
  unblamed_says (Err (Filter place faults)) explains = (explains, λ named same. absurd cc)
  unblamed_says (Err (Lister id)) explains = ((unasked listings, inl refl), λ named same. absurd cc)
  unblamed_says (Err (BadListing id fault)) explains = (explains, λ named same. absurd cc)
  unblamed_says (Err Memory) explains = (explains, λ named same. absurd cc)
