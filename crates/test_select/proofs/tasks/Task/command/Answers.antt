use Rattle.std.proofs.Common.{◌∙◌, ap₂, sym}
use Rattle.std.proofs.lemmas.List.Sums.{fold_more}
use Rattle.clap.specs.Words.{new_app, with_rule}
use Rattle.test_select_files.specs.Apps.{word_rule}
use Rattle.test_select_files.proofs.AppFacts.{stays_local}
use Rattle.test_select.specs.Tasks.{name_of, with_word}
use Rattle.test_select.proofs.tasks.Task.command.Goals as goal

pub loop-word-preserved : goal.loop-word-preserved
loop-word-preserved c = record {
  app = c.in_ok-grown.ensures.shape c.argument.ensures.local
      ∙ ap₂ with_rule c.loop-word.invariant.app c.argument.ensures.rule
      ∙ sym (fold_more (with_word (word_rule c.args.format)) (new_app (name_of c.args.self)) c.words-word-items.result.now c.loop-word.word-index _ c.loop-word-test.true);
  local = stays_local _ _ _ _ c.in_ok-grown.ensures.globals c.argument.ensures.local c.loop-word.invariant.local;
}
