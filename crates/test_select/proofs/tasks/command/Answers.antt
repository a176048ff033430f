use Rattle.std.proofs.Common.{refl}
use Rattle.test_select.proofs.TaskFacts.{is_selector}
use Rattle.test_select.proofs.tasks.command.Goals as goal

pub returns-clause-app : goal.returns-clause-app
returns-clause-app c = is_selector _ _ c.command_by.ensures.app refl
