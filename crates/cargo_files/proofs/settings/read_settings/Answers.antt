use Rattle.std.proofs.Common.{arith}
use Rattle.std.proofs.lemmas.Result.{err_from_is_err_and}
use Rattle.cargo_files.proofs.PrintedFacts.{all_read, begins_next, line_passed, line_read, line_refused}
use Rattle.cargo_files.specs.Printed.{first}
use Rattle.cargo_files.proofs.settings.read_settings.Goals as goal

pub returns-in_err-push_setting-clause-refused : goal.returns-in_err-push_setting-clause-refused
returns-in_err-push_setting-clause-refused c =
    let p = err_from_is_err_and c.from_residual.result c.from_residual.ensures.1 in
    rw (p.1, p.2) (line_refused c.args.text.now c.loop-at.at c.run_end-end.result _ c.run_end-end.ensures.value c.loop-at-test.true c.loop-at.invariant.begins c.in_err-push_setting.ensures.refused c.loop-at.invariant.only)

pub loop-at-preserved : goal.loop-at-preserved
loop-at-preserved c =
    let pushed = c.in_ok-push_setting.ensures.pushed in
    record {
      read = λ ys rest. line_read c.args.text.now c.loop-at.at c.run_end-end.result c.loop-at.settings.items pushed.0 c.push_setting.new.settings.items ys c.run_end-end.ensures.value c.loop-at-test.true pushed.2 pushed.1 c.loop-at.invariant.read rest;
      begins = begins_next c.args.text.now c.loop-at.at c.run_end-end.result c.run_end-end.ensures.value c.loop-at-test.true c.loop-at.invariant.begins;
      only = λ xs all.
          let from = c.loop-at.invariant.only xs all in
          line_passed c.args.text.now c.loop-at.at c.run_end-end.result from.0 c.run_end-end.ensures.value c.loop-at-test.true from.1;
    }

pub returns-clause-read : goal.returns-clause-read
returns-clause-read c =
    all_read c.args.text.now c.loop-at.at c.loop-at.settings.items (omega arith) c.loop-at.invariant.read

pub loop-at-init : goal.loop-at-init
loop-at-init c = record {
  read = λ ys rest. rw c.new-settings.ensures.items rest;
  begins = first;
  only = λ xs all. (xs, all);
}
