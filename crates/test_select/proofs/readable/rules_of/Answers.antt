use Rattle.std.proofs.Common.{◌∙◌, ap}
use Rattle.workspace_record.specs.Records.{Workspace}
use Rattle.feature_account_making.specs.Sources.{sourced_rules}
use Rattle.test_select.proofs.readable.rules_of.Goals as goal

pub returns-in_ok-sourced_rules-in-Ok : goal.returns-in_ok-sourced_rules-in-Ok
returns-in_ok-sourced_rules-in-Ok c =
    let q = c.args.question.now in
    let known = c.in-Ok.ensures.served in
    (known.1, c.in_ok-sourced_rules-in-Ok.ensures.sourced ∙ ap (λ (w : Workspace). sourced_rules w q.choice q.table) (c.record.ensures.value ∙ known.0))
