use Rattle.std.proofs.Common.{◌≡◌, ◌∙◌, Bool, true, false, sym, ap, subst, Err, Option}
use Rattle.workspace_record.specs.Records.{Text}
use Rattle.test_select_files.specs.Telling.{Tells, TellsUnless}
use Rattle.test_select.proofs.program.run.Goals.{then-not-is_denial, else-not-is_denial}
use Rattle.test_select.proofs.program.run.Goals as goal

of_no_denial : (denial : Bool) (lines old new : Option Text) → denial ≡ false → Tells lines old new → TellsUnless denial lines old new
of_no_denial denial lines old new is told = subst (λ d. TellsUnless d lines old new) (sym is) told

of_a_denial : (denial : Bool) (lines old new : Option Text) → denial ≡ true → new ≡ old → TellsUnless denial lines old new
of_a_denial denial lines old new is same = subst (λ d. TellsUnless d lines old new) (sym is) same

pub returns-after-not-is_denial-clause-ends : goal.returns-after-not-is_denial-clause-ends
returns-after-not-is_denial-clause-ends g c = record {
  outcome = Err c.in-Err.failure;
  is_status = c.status.ensures;
  told = elim c.if-not-is_denial.branch [
    | then-not-is_denial w ↦ of_no_denial _ _ _ _ (sym c.is_denial.ensures ∙ w.if-not-is_denial.true) (subst (λ e. Tells _ (g.E.Write.contents c.args.err.now) (g.E.Write.contents e)) (sym w.err-is) w.tell.ensures.told)
    | else-not-is_denial w ↦ of_a_denial _ _ _ _ (sym c.is_denial.ensures ∙ w.if-not-is_denial.false) (ap (λ e. g.E.Write.contents e) w.err-is)
  ];
  means = c.in-Err.ensures.ends;
  mistakes = c.in-Err.ensures.mistakes;
}
