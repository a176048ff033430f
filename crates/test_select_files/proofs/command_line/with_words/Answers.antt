use Rattle.std.proofs.Common.{◌∙◌, ap₂, sym}
use Rattle.std.proofs.lemmas.List.Sums.{fold_more}
use Rattle.clap.specs.Words.{app_of, with_rule}
use Rattle.test_select_files.specs.Apps.{with_word}
use Rattle.test_select_files.proofs.AppFacts.{stays_local}
use Rattle.test_select_files.proofs.command_line.with_words.Goals as goal

pub loop-word-preserved : goal.loop-word-preserved
loop-word-preserved c = record {
  app = c.in_ok-grown.ensures.shape c.argument-argument.ensures.local
      ∙ ap₂ with_rule c.loop-word.invariant.app c.argument-argument.ensures.rule
      ∙ sym (fold_more with_word (app_of c.args.command) c.args.words.now c.loop-word.word-index _ c.loop-word-test.true);
  local = stays_local _ _ _ _ c.in_ok-grown.ensures.globals c.argument-argument.ensures.local c.loop-word.invariant.local;
}
