-- What the compiled filters of a question say, and what its texts do.
use Rattle.std.proofs.Common.{◌↔◌, refl, true, List, [], ◌∷◌, Contains}
use Rattle.workspace_record.specs.Records.{Text}
use Rattle.list_facts.proofs.Membership.{Contains-none}
use Rattle.nextest_filter_tokens.specs.declared.filterset_kind.FiltersetKind.TheVariants.{Test}
use Rattle.nextest_binaries.specs.Queries as asked
use Rattle.nextest_filter_evaluation.specs.declared.groups.KnownGroups.{KnownGroups}
use Rattle.nextest_filter_evaluation.specs.Compiled.{Leaf}
use Rattle.nextest_filter_evaluation.specs.Formulas.{Formula, leaf}
use Rattle.nextest_filtering.specs.Compiling.{IsCompiled}
use Rattle.nextest_filtering.specs.Contexts.{ContextValue}
use Rattle.nextest_filtering.specs.Filters.{FilterLeaf}
use Rattle.nextest_filtering.specs.Filters as filter
use Rattle.test_select_checks.specs.Alike.{AreAlike}
use Rattle.test_select_checks.specs.FilterTexts.{IsAcceptedText, IsCompiledText, IsFilterOf}
use Rattle.test_select_checks.specs.Meaning.{DefaultGivesIn, DefaultHoldsIn, HoldsIn, MayHoldIn}
use Rattle.test_select_checks.specs.RecordFilters.{AreMadeOf, FilterReadings}
use Rattle.test_select_checks.proofs.AlikeFacts.{alike_back, alike_between, alike_there}
use Rattle.test_select_checks.proofs.MeaningFacts.{default_gives_iff, default_holds_iff, gives_iff, holds_iff}
use Rattle.test_select_tests.specs.Filtering.{AreCompiledTexts}
use Rattle.test_select_tests.specs.QuestionFilters.{CompiledQuestion, MayPass, Pass}
use Rattle.test_select_tests.specs.Readings.{AreReadAs}

module _ (cx : ContextValue) where
  -- compiled texts are made of what the texts read as
  pub texts_read : (groups : KnownGroups) (texts : List Text) (compiled : List (Formula Leaf)) → AreCompiledTexts cx groups texts compiled → (filters : List (Formula FilterLeaf)) × AreReadAs texts filters × AreAlike (IsCompiled cx) filters compiled
  texts_read groups [] compiled h = (leaf filter.All ∷ [], refl, rw h (refl, tt))
  texts_read groups (text ∷ texts) compiled h =
      alike_between (IsCompiledText cx groups Test) IsFilterOf (IsCompiled cx) (λ t c s. (s.filter, s.accepted.of_text, s.compiled)) (text ∷ texts) compiled h

  -- and the texts are accepted
  pub texts_accepted : (groups : KnownGroups) (texts : List Text) (compiled : List (Formula Leaf)) → AreCompiledTexts cx groups texts compiled → (text : Text) → Contains texts text → IsAcceptedText cx groups Test text
  texts_accepted groups [] compiled h text i = absurd (Contains-none text i)
  texts_accepted groups (t ∷ ts) compiled h text i =
      let found = alike_there (IsCompiledText cx groups Test) (t ∷ ts) compiled text h i in
      (found.2.filter, found.2.accepted)

  module _ (r : FilterReadings) (q : CompiledQuestion) (made : AreMadeOf cx r q.filters) (filters : List (Formula FilterLeaf)) (alike : AreAlike (IsCompiled cx) filters q.texts) where
    pub pass_iff : (t : asked.Test) → Pass q t ↔ (((f : Formula FilterLeaf) × Contains filters f × HoldsIn cx r t f) × DefaultHoldsIn cx r t)
    pass_iff t = (
      λ h. let found = alike_back (IsCompiled cx) filters q.texts h.0.0 alike h.0.1 in ((found.0, found.1, (holds_iff cx r q.filters made t found.0 h.0.0 found.2).0 h.0.2), (default_holds_iff cx r q.filters made t).0 h.1),
      λ h. let found = alike_there (IsCompiled cx) filters q.texts h.0.0 alike h.0.1 in ((found.0, found.1, (holds_iff cx r q.filters made t h.0.0 found.0 found.2).1 h.0.2), (default_holds_iff cx r q.filters made t).1 h.1),
    )

    pub may_iff : (b : asked.Binary) → MayPass q b ↔ (((f : Formula FilterLeaf) × Contains filters f × MayHoldIn cx r b f) × DefaultGivesIn cx r b true)
    may_iff b = (
      λ h. let found = alike_back (IsCompiled cx) filters q.texts h.0.0 alike h.0.1 in ((found.0, found.1, (gives_iff cx r q.filters made b found.0 h.0.0 found.2 true).0 h.0.2), (default_gives_iff cx r q.filters made b true).0 h.1),
      λ h. let found = alike_there (IsCompiled cx) filters q.texts h.0.0 alike h.0.1 in ((found.0, found.1, (gives_iff cx r q.filters made b h.0.0 found.0 found.2 true).1 h.0.2), (default_gives_iff cx r q.filters made b true).1 h.1),
    )
