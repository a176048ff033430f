use Rattle.feature_account_rules.proofs.RuleFacts.{rule_list_iff}
use Rattle.feature_account.proofs.laws.lists_each_rule.Goals as goal

pub returns : goal.returns
returns c = rule_list_iff
