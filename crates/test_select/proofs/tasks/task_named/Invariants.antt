use Rattle.std.proofs.Common.{◌≡◌, None, find, take}
use Rattle.std.specs.Str.{bytes_eq}
use Rattle.test_select.specs.Tasks.{name_of}
use Rattle.test_select.specs.declared.tasks.Task.{Task}
use Rattle.test_select.proofs.tasks.task_named.Given as goal

abbrev pub invariant-loop-task : goal.invariant-loop-task
invariant-loop-task l = find (λ (t : Task). bytes_eq (name_of t) l.name) (take l.task-index l.task-items) ≡ None
