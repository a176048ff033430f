use Rattle.std.proofs.Common.{◌∙◌, ap, ap₂, codes, sym, true}
use Rattle.std.proofs.lemmas.List.Sums.{fold_more}
use Rattle.clap.specs.Words.{App, with_subcommand}
use Rattle.test_select_files.specs.Apps.{bare_app, word_rule}
use Rattle.test_select_files.proofs.AppFacts.{stays_local}
use Rattle.test_select.specs.Tasks.{tasks, with_task}
use Rattle.test_select.proofs.tasks.command_by.Goals as goal

pub loop-task-preserved : goal.loop-task-preserved
loop-task-preserved c = record {
  app = c.in_ok-grown.ensures.shape c.in_ok-below.ensures.local
      ∙ ap₂ with_subcommand c.loop-task.invariant.app (ap (λ (a : App). a.top) c.in_ok-below.ensures.app)
      ∙ sym (fold_more (with_task (word_rule c.args.format)) (bare_app (codes "test_select") true) tasks c.loop-task.task-index _ c.loop-task-test.true);
  local = stays_local _ _ _ _ c.in_ok-grown.ensures.globals c.in_ok-below.ensures.local c.loop-task.invariant.local;
}
