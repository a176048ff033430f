use Rattle.std.proofs.Common.{◌≡◌, false, rules, subst}
use Rattle.std.specs.Str.{bytes_eq}
use Rattle.clap.specs.Words.{Text}
use Rattle.test_select.specs.Tasks.{name_of, tasks}
use Rattle.test_select.specs.declared.tasks.Task.{Task}
use Rattle.test_select.proofs.TaskFacts.{none_more}
use Rattle.test_select.proofs.tasks.task_named.Goals as goal

pub loop-task-preserved : goal.loop-task-preserved
loop-task-preserved c =
    let unlike : bytes_eq c.name.result.now c.args.name.now ≡ false = search rules in
    none_more (λ (t : Task). bytes_eq (name_of t) c.args.name.now) tasks c.loop-task.task-index _ c.loop-task-test.true c.loop-task.invariant
    (subst (λ (n : Text). bytes_eq n c.args.name.now ≡ false) c.name.ensures.name unlike)
