use Rattle.std.proofs.Common.{◌∙◌, ap, ap₂, sym}
use Rattle.std.proofs.lemmas.List.Sums.{fold_more}
use Rattle.clap.specs.Words.{App, app_of, with_subcommand}
use Rattle.test_select_files.specs.Apps.{with_sub}
use Rattle.test_select_files.proofs.AppFacts.{stays_local}
use Rattle.test_select_files.proofs.command_line.with_subcommands.Goals as goal

pub loop-subcommand-preserved : goal.loop-subcommand-preserved
loop-subcommand-preserved c = record {
  app = c.in_ok-grown.ensures.shape c.in_ok-below.ensures.local
      ∙ ap₂ with_subcommand c.loop-subcommand.invariant.app (ap (λ (a : App). a.top) c.in_ok-below.ensures.app)
      ∙ sym (fold_more with_sub (app_of c.args.command) c.args.subcommands.now c.loop-subcommand.subcommand-index _ c.loop-subcommand-test.true);
  local = stays_local _ _ _ _ c.in_ok-grown.ensures.globals c.in_ok-below.ensures.local c.loop-subcommand.invariant.local;
}
