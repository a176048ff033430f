use Rattle.std.proofs.Common.{refl}
use Rattle.workspace_record.proofs.TableFacts.{same_answered, same_answers}
use Rattle.workspace_record.proofs.choice.PlatformTable.copy.Goals as goal

pub returns : goal.returns
returns c = record {
  answered = same_answered _ _ c.in_ok-answers.ensures.cases;
  answers = λ spec. same_answers spec _ _ c.in_ok-answers.ensures.cases;
  unknown_counts = refl;
}
