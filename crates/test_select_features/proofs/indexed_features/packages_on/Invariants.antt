use Rattle.std.proofs.Common.{◌≡◌, take}
use Rattle.workspace_record.specs.Records.{Text}
use Rattle.workspace_record.specs.TextSets.{has_text}
use Rattle.feature_account.specs.Accounts.{concluded_set}
use Rattle.feature_account_rules.specs.RuleList.{base_of}
use Rattle.test_select_features.proofs.indexed_features.packages_on.Given as goal

abbrev pub invariant-loop-feature : goal.invariant-loop-feature
invariant-loop-feature l = (id : Text) → has_text l.packages id ≡ concluded_set (take l.feature-index l.features) (base_of id)
