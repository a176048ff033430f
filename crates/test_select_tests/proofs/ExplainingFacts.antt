-- From what the compiled filters of a question say to what is told of it.
use Rattle.std.proofs.Common.{◌≡◌, ◌==◌, ◌<◌, ◌↔◌, arith, inl, inr, refl, sym, subst, true≢false, ℕ, zero, suc, Bool, true, false, not, IsTrue, Bor, List, length, map, Contains, Option, Result, Ok, Err}
use Rattle.std.specs.Bool.{Decides}
use Rattle.std.proofs.lemmas.Bool.Decides.{Decides-eqb}
use Rattle.std.proofs.lemmas.List.{length-map}
use Rattle.workspace_record.specs.Records.{Text, Workspace}
use Rattle.workspace_record.specs.Choices.{Choice}
use Rattle.workspace_record.specs.declared.choice.PlatformTable.{PlatformTable}
use Rattle.workspace_record.specs.Features.{FeatureValue}
use Rattle.nextest_binaries.specs.Listers.{Shown}
use Rattle.nextest_filter_evaluation.specs.Formulas.{SomeAnswersGive}
use Rattle.nextest_filter_evaluation.specs.Meaning.{DefaultGives, DefaultHolds, MayBe}
use Rattle.nextest_filtering.specs.Compiling.{IsCompiled}
use Rattle.nextest_filtering.specs.Contexts.{ContextValue}
use Rattle.test_select_rules.specs.Binaries.{Binary, binaries}
use Rattle.test_select_checks.specs.Contexts.{HasNamesOf}
use Rattle.test_select_checks.specs.Meaning.{DefaultGivesIn, DefaultHoldsIn, HoldsIn, MayHoldIn}
use Rattle.test_select_features.specs.Switching.{AreOn}
use Rattle.test_select_checks.specs.declared.select_error.SelectError.{SelectError}
use Rattle.test_select_checks.specs.declared.select_error.SelectError.TheVariants.{Record, UnknownExtra, Filter, Lister, BadListing, Memory}
use Rattle.test_select_checks.proofs.MeaningFacts.{default_gives_iff, default_holds_iff, gives_iff, holds_iff}
use Rattle.test_select_tests.specs.Filtering.{AreFiltersIn}
use Rattle.test_select_tests.specs.Following.{IsFollowedIn}
use Rattle.test_select_tests.specs.NamedFeatures.{AreNamedOn}
use Rattle.test_select_tests.specs.QuestionFilters.{CompiledQuestion, TextPasses}
use Rattle.test_select_tests.specs.CompiledReasons.{IsReasonOfBinary, IsReasonOfTest}
use Rattle.test_select_tests.specs.Explaining.{Explains, IsReasonOfBinaryIn, IsReasonOfTestIn}
use Rattle.test_select_tests.specs.Plans.{Plans}
use Rattle.test_select_rules.specs.Asked.{binary_asked, test_asked}
use Rattle.test_select_tests.specs.Questions.{IsFeatureOn, IsSpelled, Question}
use Rattle.test_select_tests.specs.Readings.{Readings}
use Rattle.test_select_tests.specs.Selecting.{IsAnswered}
use Rattle.test_select_tests.specs.Telling.{TellsAmong}
use Rattle.test_select_tests.specs.declared.scope.LinkScope.{LinkScope}
use Rattle.test_select_tests.specs.declared.asked_binaries.AskedBinaries.{AskedBinaries}
use Rattle.test_select_tests.specs.declared.reason.Reason.{Reason}
use Rattle.test_select_tests.specs.declared.reason.TestReason.{TestReason}
use Rattle.test_select_tests.specs.declared.reason.BinaryReason.{BinaryReason}
use Rattle.test_select_tests.proofs.PlanFacts.{is_answered, of_record, of_texts, readings}
use Rattle.test_select_tests.proofs.ReasonFacts.{binary_reason, test_reason}
use Rattle.test_select_tests.proofs.TellingFacts.{no_extra, no_filter, no_record, tells_alike}

some_if : (n m : ℕ) (none : Bool) → Decides none (n ≡ 0) → m ≡ n → IsTrue (not none) ↔ (0 < m)
some_if n m true d same = (λ e. absurd (true≢false (sym e)), λ some. absurd (omega (arith, some, same, d.0 refl)))
some_if zero m false d same = absurd (true≢false (sym (d.1 refl)))
some_if (suc n) m false d same = (λ e. omega (arith, same), λ some. refl)

-- texts are given exactly where there are some
pub given_iff : (texts : List (Bor Text)) (none : Bool) → none ≡ (length texts == 0) → IsTrue (not none) ↔ (0 < length (map (λ t. t.now) texts))
given_iff texts none is =
    some_if (length texts) (length (map (λ t. t.now) texts)) none (subst (λ b. Decides b (length texts ≡ 0)) (sym is) (Decides-eqb (length texts) 0)) (length-map texts (λ (t : Bor Text). t.now))

module _ (q : Question) (id : Text) (test : Option Text) (old : Shown) where
  -- a question that is refused
  pub refused_so : (e : SelectError) → Plans q (Err e) → Explains q id test old (Err e) old
  refused_so (Record e) h = (h, refl)
  refused_so (UnknownExtra place) h = (h.0, h.1, refl)
  refused_so (Filter place faults) h = (h, refl)
  refused_so (Lister named) h = absurd h
  refused_so (BadListing named fault) h = absurd h
  refused_so Memory h = inl refl

  -- what is told by readings of a question that is answered
  explained : (r : Readings) → IsAnswered q r → (new : Shown) (result : Result Reason SelectError) → TellsAmong (IsReasonOfTestIn q r) (IsReasonOfBinaryIn q r) (IsFeatureOn q) (binaries q.workspace) id test old result new → Explains q id test old result new
  explained r is new (Ok reason) h = record { readings = r; answered = is; told = h }
  explained r is new (Err (Record e)) h =
      absurd (no_record (IsReasonOfTestIn q r) (IsReasonOfBinaryIn q r) (IsFeatureOn q) (binaries q.workspace) id test old new e h)
  explained r is new (Err (UnknownExtra place)) h =
      absurd (no_extra (IsReasonOfTestIn q r) (IsReasonOfBinaryIn q r) (IsFeatureOn q) (binaries q.workspace) id test old new place h)
  explained r is new (Err (Filter place faults)) h =
      absurd (no_filter (IsReasonOfTestIn q r) (IsReasonOfBinaryIn q r) (IsFeatureOn q) (binaries q.workspace) id test old new place faults h)
  explained r is new (Err (Lister named)) h = record { readings = r; answered = is; told = h }
  explained r is new (Err (BadListing named fault)) h = record { readings = r; answered = is; told = h }
  explained r is new (Err Memory) h = inr (record { readings = r; answered = is; told = h })

  module _ (on : List FeatureValue) (are_on : AreOn q.workspace q.choice q.table on) (filters : CompiledQuestion) (cx : ContextValue) (names : HasNamesOf q.workspace cx) (followed : IsFollowedIn q.scope q.workspace on q.table cx.graph × AreNamedOn on cx.on) (are : AreFiltersIn cx q.workspace q.texts filters) where
    abbrev read : Readings
    read = readings q on are_on filters cx names followed are

    of_test : (given : Bool) → (IsTrue given ↔ (0 < length q.texts)) → (b : Binary) (listed : List Text) (name : Text) (why : TestReason) → IsReasonOfTest filters (IsTrue given) b listed name why → IsReasonOfTestIn q read b listed name why
    of_test given says b listed name why h =
        let t = test_asked b name in
        let r = of_record q on are_on filters cx names followed are in
        let texts = of_texts q on are_on filters cx names followed are in
        test_reason (IsCompiled cx) (HoldsIn cx r.0 t) (TextPasses filters t) (λ f c h. holds_iff cx r.0 filters.filters r.2 t f c h) texts.0 filters.texts texts.2 (DefaultHolds filters.filters.default t) (DefaultHoldsIn cx r.0 t) (default_holds_iff cx r.0 filters.filters r.2 t) (Contains listed name) (IsTrue given) (0 < length q.texts) says why h

    of_binary : (b : Binary) (why : BinaryReason) → IsReasonOfBinary filters b why → IsReasonOfBinaryIn q read b why
    of_binary b why h =
        let a = binary_asked b in
        let r = of_record q on are_on filters cx names followed are in
        let texts = of_texts q on are_on filters cx names followed are in
        binary_reason (IsCompiled cx) (MayHoldIn cx r.0 a) (λ c. SomeAnswersGive (MayBe filters.filters.default a) c true) (λ f c h. gives_iff cx r.0 filters.filters r.2 a f c h true) texts.0 filters.texts texts.2 (DefaultGives filters.filters.default a true) (DefaultGivesIn cx r.0 a true) (default_gives_iff cx r.0 filters.filters r.2 a true) why h

    -- and by the compiled filters
    pub explained_by : IsSpelled q → (given : Bool) → (IsTrue given ↔ (0 < length q.texts)) → (all : List Binary) → all ≡ binaries q.workspace → (new : Shown) (result : Result Reason SelectError) → TellsAmong (IsReasonOfTest filters (IsTrue given)) (IsReasonOfBinary filters) (λ f. Contains on f) all id test old result new → Explains q id test old result new
    explained_by spelled given says all same new result told =
        let h = subst (λ (bs : List Binary). TellsAmong (IsReasonOfTest filters (IsTrue given)) (IsReasonOfBinary filters) (λ f. Contains on f) bs id test old result new) same told in
        explained read (is_answered q on are_on filters cx names followed are spelled) new result (tells_alike (IsReasonOfTest filters (IsTrue given)) (IsReasonOfTestIn q read) (IsReasonOfBinary filters) (IsReasonOfBinaryIn q read) (of_test given says) of_binary (λ f. Contains on f) (IsFeatureOn q) are_on.members (binaries q.workspace) id test old new result h)

-- what is explained in one record is in an equal one
pub explained_in : (w v : Workspace) (choice : Choice) (table : PlatformTable) (scope : LinkScope) (texts : List Text) (asks : AskedBinaries) (id : Text) (test : Option Text) (old : Shown) (r : Result Reason SelectError) (new : Shown) → w ≡ v
    → Explains (record { workspace = w; choice = choice; table = table; scope = scope; texts = texts; asks = asks }) id test old r new
    → Explains (record { workspace = v; choice = choice; table = table; scope = scope; texts = texts; asks = asks }) id test old r new
explained_in w v choice table scope texts asks id test old r new same = subst (λ (x : Workspace). Explains (record { workspace = x; choice = choice; table = table; scope = scope; texts = texts; asks = asks }) id test old r new) same
