-- What the program selects, explains and lists by.
use Rattle.std.specs.Prelude.{◌≡◌, List, Option, Result, String, Vec, map}
use Rattle.std.specs.Global.{Global}
use Rattle.workspace_record.specs.Records.{Text}
use Rattle.nextest_binaries.specs.Listers.{Shown}
use Rattle.test_select_features.specs.Switching.{AnswersOrRefuses, IsServed}
use Rattle.feature_account_making.specs.SourceViews.{sourced_view}
use Rattle.feature_account_making.specs.Sources.{sourced_rules}
use Rattle.feature_account_making.specs.declared.sourced_rule.SourcedRule.{SourcedRule}
use Rattle.test_select_checks.specs.declared.select_error.SelectError.{SelectError}
use Rattle.test_select_tests.specs.Explaining.{Explains}
use Rattle.test_select_tests.specs.Selecting.{Answers, ListsAsked}
use Rattle.test_select_tests.specs.Selections.{Selected}
use Rattle.test_select_tests.specs.declared.asked_binaries.AskedBinaries.{AskedBinaries}
use Rattle.test_select_tests.specs.declared.asked_binaries.AskedBinaries.TheVariants.{LetThrough}
use Rattle.test_select_tests.specs.declared.reason.Reason.{Reason}
use Rattle.test_select_files.specs.declared.inputs.FeatureQuestion.{FeatureQuestion}
use Rattle.test_select_tests.specs.declared.scope.LinkScope.{LinkScope}

-- a selection by the record, the choice and the table that were read, over the links of the scope
abbrev pub AnswersQuestion : FeatureQuestion → LinkScope → List Text → AskedBinaries → Shown → Result Selected SelectError → Shown → Type 0
AnswersQuestion q scope texts asks = Answers (record { workspace = q.record.value; choice = q.choice; table = q.table; scope = scope; texts = texts; asks = asks })

-- the binaries that such a selection asks, or why the question is refused
abbrev pub ListsBinaries : FeatureQuestion → LinkScope → List Text → AskedBinaries → Result (Vec (String Global) Global) SelectError → Type 0
ListsBinaries q scope texts asks = ListsAsked (record { workspace = q.record.value; choice = q.choice; table = q.table; scope = scope; texts = texts; asks = asks })

-- whether and why a test is chosen, or a binary asked, by what was read
abbrev pub ExplainsQuestion : FeatureQuestion → LinkScope → List Text → Text → Option Text → Shown → Result Reason SelectError → Shown → Type 0
ExplainsQuestion q scope texts = Explains (record { workspace = q.record.value; choice = q.choice; table = q.table; scope = scope; texts = texts; asks = LetThrough })

-- the rules of what was read, each with what it comes from, or why the question is refused
abbrev pub ListsRules : FeatureQuestion → Result (Vec SourcedRule Global) SelectError → Type 0
ListsRules q =
    AnswersOrRefuses (λ rules. IsServed q.record.value q.choice × (map sourced_view rules.items ≡ sourced_rules q.record.value q.choice q.table)) q.record.value q.choice
