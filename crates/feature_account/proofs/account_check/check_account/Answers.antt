use Rattle.std.proofs.Common.{ap, subst, ◌∙◌}
use Rattle.std.specs.Result.{IfOk}
use Rattle.workspace_record.specs.Records.{Workspace}
use Rattle.feature_account.specs.Accounts.{IsVerdict}
use Rattle.feature_account_rules.specs.RuleList.{rule_list}
use Rattle.feature_account.proofs.AccountFacts.{accepted_if_ok}
use Rattle.feature_account.proofs.account_check.check_account.Goals as goal

pub returns-clause-accepted : goal.returns-clause-accepted
returns-clause-accepted c =
    accepted_if_ok _ _ _ (subst (λ rules. IfOk c.verdict_of.result (IsVerdict rules c.args.account.now)) (c.deref.ensures.value ∙ c.in_ok-rules.ensures.listed ∙ ap (λ (w : Workspace). rule_list w c.args.choice.now c.args.table.now) c.in_ok-index.ensures.made) c.verdict_of.ensures)
