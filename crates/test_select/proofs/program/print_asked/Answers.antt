use Rattle.test_select.proofs.RunFacts.{asked_task_ends, no_task_ends}
use Rattle.test_select.proofs.program.print_asked.Goals as goal

pub returns-in-Some-task_named-clause-ends : goal.returns-in-Some-task_named-clause-ends
returns-in-Some-task_named-clause-ends g c =
    asked_task_ends c.args.matches.now _ _ c.in-Some.ensures.name c.in-Some.ensures.rows _ _ _ _ c.in-Some-task_named.ensures.task c.print_task.ensures.ends

pub returns-in-None-clause-ends : goal.returns-in-None-clause-ends
returns-in-None-clause-ends g c =
    no_task_ends c.args.matches.now _ _ c.in-Some.ensures.name c.in-Some.ensures.rows _ _ c.in-None.ensures.task
