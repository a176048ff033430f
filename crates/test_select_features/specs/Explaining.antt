-- Why a feature is on under a choice and a table.
use Rattle.std.specs.Prelude.{ℕ, List, Option, Some, None, Result, Vec}
use Rattle.std.specs.Global.{Global}
use Rattle.workspace_record.specs.Records.{Workspace}
use Rattle.workspace_record.specs.Features.{FeatureValue}
use Rattle.workspace_record.specs.Choices.{Choice}
use Rattle.workspace_record.specs.declared.choice.PlatformTable.{PlatformTable}
use Rattle.feature_account_rules.specs.Closed.{IsOn}
use Rattle.feature_account.specs.Explanations.{IsExplanation, IsSublist}
use Rattle.feature_account_rules.specs.RuleList.{rule_list}
use Rattle.feature_account_making.specs.Lowest.{IsLowestAccount}
use Rattle.test_select_features.specs.Switching.{IsServed, AnswersOrRefuses}
use Rattle.test_select_checks.specs.declared.select_error.SelectError.{SelectError}

-- the feature is on, and the entries explain it, in the order of the account of what is on
pub record IsExplainedBy (w : Workspace) (choice : Choice) (table : PlatformTable) (goal : FeatureValue) (entries : List ℕ) : Type 0 where
  pub on : IsOn (rule_list w choice table) goal
  pub explains : IsExplanation (rule_list w choice table) goal entries
  pub account : List ℕ
  pub lowest : IsLowestAccount (rule_list w choice table) account
  pub in_order : IsSublist entries account

-- the feature is explained, or is not on
abbrev pub IsExplained : Workspace → Choice → PlatformTable → FeatureValue → Option (Vec ℕ Global) → Type 0
IsExplained w choice table goal (Some v) = IsExplainedBy w choice table goal v.items
IsExplained w choice table goal None = ¬ IsOn (rule_list w choice table) goal

-- the explanation of the feature, if it is on, or why the question is refused
abbrev pub Explains : Workspace → Choice → PlatformTable → FeatureValue → Result (Option (Vec ℕ Global)) SelectError → Type 0
Explains w choice table goal = AnswersOrRefuses (λ o. IsServed w choice × IsExplained w choice table goal o) w choice
