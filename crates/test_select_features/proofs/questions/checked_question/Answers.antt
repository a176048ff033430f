use Rattle.std.proofs.Common.{subst}
use Rattle.workspace_record.specs.Records.{Workspace}
use Rattle.test_select_features.specs.Switching.{ServesQuestion}
use Rattle.test_select_features.proofs.questions.checked_question.Goals as goal

pub returns : goal.returns
returns c = record {
  served = subst (λ (w : Workspace). ServesQuestion w c.args.choice.now c.with_known_extras.result) c.in_ok-checked.ensures.checked.0 c.with_known_extras.ensures;
}
