use Rattle.std.proofs.Common.{◌≡◌, false, fold, take, codes, true}
use Rattle.clap.specs.Words.{app_of}
use Rattle.clap.specs.declared.builder.Command.TheViews.{out-Command as fields_of}
use Rattle.test_select_files.specs.Apps.{bare_app, word_rule}
use Rattle.test_select.specs.Tasks.{with_task}
use Rattle.test_select.proofs.tasks.command_by.Given as goal

abbrev pub invariant-loop-task : goal.invariant-loop-task
invariant-loop-task l = record {
  app : app_of l.command ≡ fold (with_task (word_rule l.fn.format)) (bare_app (codes "test_select") true) (take l.task-index l.task-items);
  local : (fields_of l.command).has_globals ≡ false;
}
