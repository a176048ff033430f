-- What a table of answers is asked for.
use Rattle.std.specs.Prelude.{◌≡◌}
use Rattle.workspace_record.specs.Choices.{Choice}
use Rattle.workspace_record.specs.Records.{Text, Workspace}
use Rattle.workspace_record.specs.Tables.{answer}
use Rattle.workspace_record.specs.declared.choice.PlatformTable.{PlatformTable}
use Rattle.feature_account_rules.specs.RuleList.{rule_list}
use Rattle.nextest_binaries.specs.Listers.{Shown}
use Rattle.test_select_tests.specs.Questions.{Question}
use Rattle.test_select_tests.specs.Selecting.{Selects}
use Rattle.test_select_tests.specs.Selections.{Selected}

-- two tables have the same answers
pub record HaveOneAnswer (table known : PlatformTable) : Type 0 where
  pub answers : (spec : Text) → answer table spec ≡ answer known spec
  pub unknown_counts : table.unknown_counts ≡ known.unknown_counts

-- tables of the same answers make the same rules
abbrev pub RulesAskForAnswers : Type 0
RulesAskForAnswers =
    (w : Workspace) (choice : Choice) (table known : PlatformTable) → HaveOneAnswer table known → rule_list w choice table ≡ rule_list w choice known

-- a selection is one of another table of the same answers too
abbrev pub SelectionsAskForAnswers : Type 0
SelectionsAskForAnswers =
    (q : Question) (known : PlatformTable) (old new : Shown) (selection : Selected)
    → HaveOneAnswer q.table known
    → Selects q old selection new
    → Selects (record q { table = known }) old selection new
