use Rattle.std.proofs.Common.{◌∙◌, sym, arith}
use Rattle.cargo_files.proofs.RunFacts.{run_at_end, run_goes_on, run_stops}
use Rattle.cargo_files.proofs.bytes.run_end.Goals as goal

pub loop-place-preserved : goal.loop-place-preserved
loop-place-preserved c = record {
  value = sym (run_goes_on c.args.run c.args.text.now c.loop-place.place c.loop-place-test.true (sym c.passes.ensures ∙ c.if-passes.true)) ∙ c.loop-place.invariant.value;
  rises = omega arith;
  end = omega arith;
}

pub returns-else-passes-clause-value : goal.returns-else-passes-clause-value
returns-else-passes-clause-value c =
    sym (run_stops c.args.run c.args.text.now c.loop-place.place c.loop-place-test.true (sym c.passes.ensures ∙ c.if-passes.false)) ∙ c.loop-place.invariant.value

pub returns-after-loop-place-clause-value : goal.returns-after-loop-place-clause-value
returns-after-loop-place-clause-value c =
    sym (run_at_end c.args.run c.args.text.now c.loop-place.place c.loop-place-test.false) ∙ c.loop-place.invariant.value
