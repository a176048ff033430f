use Rattle.std.proofs.Common.{ap, subst, ◌∙◌}
use Rattle.std.specs.Result.{IfOk}
use Rattle.workspace_record.specs.Records.{Workspace}
use Rattle.feature_account.specs.Explanations.{IsExplanationVerdict}
use Rattle.feature_account_rules.specs.RuleList.{rule_list}
use Rattle.feature_account.proofs.ExplanationFacts.{explanation_accepted_if_ok}
use Rattle.feature_account.proofs.explanation_check.check_explanation.Goals as goal

pub returns-clause-accepted : goal.returns-clause-accepted
returns-clause-accepted c =
    explanation_accepted_if_ok _ _ _ _ (subst (λ rules. IfOk c.verdict_of.result (IsExplanationVerdict rules c.args.feature.now c.args.explanation.now)) (c.deref.ensures.value ∙ c.in_ok-rules.ensures.listed ∙ ap (λ (w : Workspace). rule_list w c.args.choice.now c.args.table.now) c.in_ok-index.ensures.made) c.verdict_of.ensures)
