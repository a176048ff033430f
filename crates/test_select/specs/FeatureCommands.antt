-- What the commands print that answer what is on: the packages in their order, the features, and the rules.
use Rattle.std.specs.Prelude.{◌≡◌, List, Option, Result, flat_map, map}
use Rattle.clap.specs.Words.{Row}
use Rattle.list_facts.specs.Texts.{texts}
use Rattle.workspace_record.specs.Records.{Text}
use Rattle.feature_account_making.specs.FeatureLines.{feature_line}
use Rattle.feature_account_making.specs.RuleLines.{rule_lines}
use Rattle.feature_account_making.specs.SourceViews.{sourced_view}
use Rattle.test_select_features.specs.Orders.{Orders as OrdersPackages}
use Rattle.test_select_features.specs.Switching.{SwitchesOn}
use Rattle.test_select_files.specs.Reading.{Asked, ReadsQuestion}
use Rattle.test_select_files.specs.Words.{files_named}
use Rattle.test_select_files.specs.declared.inputs.FeatureQuestion.{FeatureQuestion}
use Rattle.test_select.specs.Orders.{order_line}
use Rattle.test_select.specs.Printing.{EndsReading, Prints, never}
use Rattle.test_select.specs.Runs.{ListsRules}
use Rattle.test_select.specs.declared.failure.Failure.{Failure}

-- the order of the packages that are on is printed, an id on each line, or how this fails
abbrev pub PrintsOrder : FeatureQuestion → Result (Unit {0}) Failure → Option Text → Option Text → Type 0
PrintsOrder q =
    Prints (OrdersPackages q.record.value q.choice q.table) (λ ids text. text ≡ flat_map order_line (texts ids.items)) never

-- the features that are on are printed, a line for each, or how this fails
abbrev pub PrintsFeatures : FeatureQuestion → Result (Unit {0}) Failure → Option Text → Option Text → Type 0
PrintsFeatures q =
    Prints (SwitchesOn q.record.value q.choice q.table) (λ on text. text ≡ flat_map feature_line on) never

-- the rules are printed, a line for each, numbered from 0, or how this fails
abbrev pub PrintsRules : FeatureQuestion → Result (Unit {0}) Failure → Option Text → Option Text → Type 0
PrintsRules q =
    Prints (ListsRules q) (λ rules text. text ≡ rule_lines 0 (map sourced_view rules.items)) never

-- how `order` ends, by the files that the words name
abbrev pub EndsOrder : List Row → Result (Unit {0}) Failure → Option Text → Option Text → Asked → Type 0
EndsOrder words = EndsReading (ReadsQuestion (files_named words)) PrintsOrder

-- how `features` ends
abbrev pub EndsFeatures : List Row → Result (Unit {0}) Failure → Option Text → Option Text → Asked → Type 0
EndsFeatures words = EndsReading (ReadsQuestion (files_named words)) PrintsFeatures

-- how `rules` ends
abbrev pub EndsRules : List Row → Result (Unit {0}) Failure → Option Text → Option Text → Asked → Type 0
EndsRules words = EndsReading (ReadsQuestion (files_named words)) PrintsRules
