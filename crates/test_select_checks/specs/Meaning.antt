-- What a filter says of tests and of binaries, where it may name the groups of a record and its default filter.
use Rattle.std.specs.Prelude.{Bool, true}
use Rattle.workspace_record.specs.Records.{Text}
use Rattle.nextest_filter_evaluation.specs.NameTests.{NameTest, Suits}
use Rattle.nextest_binaries.specs.Queries as asked
use Rattle.nextest_filter_evaluation.specs.Formulas.{Formula, Holds, SomeAnswersGive}
use Rattle.nextest_filtering.specs.Contexts.{ContextValue}
use Rattle.nextest_filtering.specs.Filters.{FilterLeaf}
use Rattle.nextest_filtering.specs.Meaning.{FilterLeafHolds, FilterLeafGives}
use Rattle.test_select_checks.specs.Groups.{IsGroupOf}
use Rattle.test_select_checks.specs.RecordFilters.{FilterReadings}

module _ (cx : ContextValue) (r : FilterReadings) where
  -- the default filter holds of the test (from nextest's filtersets)
  abbrev pub DefaultHoldsIn : asked.Test → Type 0
  DefaultHoldsIn t = Holds (FilterLeafHolds cx (λ _. ⊥) ⊥ t) r.default

  -- the filter of a group holds of the test
  abbrev pub GroupHoldsIn : asked.Test → Formula FilterLeaf → Type 0
  GroupHoldsIn t f = Holds (FilterLeafHolds cx (λ _. ⊥) (DefaultHoldsIn t) t) f

  -- the name of the test's group suits
  pub record IsInGroup (t : asked.Test) (test : NameTest) : Type 0 where
    pub name : Text
    pub is_its : IsGroupOf (GroupHoldsIn t) r.groups name
    pub suits : Suits test name

  -- the filter holds of the test (from nextest's filtersets)
  abbrev pub HoldsIn : asked.Test → Formula FilterLeaf → Type 0
  HoldsIn t f = Holds (FilterLeafHolds cx (IsInGroup t) (DefaultHoldsIn t) t) f

  -- some answers about the tests of the binary give the default filter the value (from nextest's filtersets)
  abbrev pub DefaultGivesIn : asked.Binary → Bool → Type 0
  DefaultGivesIn b v = SomeAnswersGive (FilterLeafGives cx (λ _. Unit {0}) b) r.default v

  -- some answers about the tests of the binary give the filter the value true (from nextest's filtersets)
  abbrev pub MayHoldIn : asked.Binary → Formula FilterLeaf → Type 0
  MayHoldIn b f = SomeAnswersGive (FilterLeafGives cx (DefaultGivesIn b) b) f true
