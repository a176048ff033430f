use borrow.Pointer.Hide.{carried_sameᵐ}
use mir.Syntax.{Dict}
use Rattle.std.proofs.Common.{◌∙◌, ℕ, List, Some, ap, map, sym}
use Rattle.workspace_record.specs.Records.{Text}
use Rattle.test_select_files.specs.Files.{Answer}
use Rattle.test_select_files.specs.Listed.{AnswersListed}
use Rattle.test_select_c.specs.CallParts.{texts_of}
use Rattle.test_select_c.proofs.CallFacts.{ends_alike}
use Rattle.test_select_c.proofs.printing.printed_of.Goals as goal
use Rattle.test_select_c.proofs.printing.printed_of.Object-1.{Members}
use Rattle.test_select_c.proofs.printing.printed_of.OwnLists as own

-- the list answers as it is, where it is lent as any source
pub returns-clause-ends : goal.returns-clause-ends
returns-clause-ends c =
    let words = ap (map (λ w. w.now)) c.deref-2.ensures.value in
    let carried = carried_sameᵐ Members Dict (own.entry-1-1 c.run-arg-1.given) _ (own.same-1-1 c.run-arg-1.given) (List ℕ → Text → Answer → List ℕ → Type 0) (λ j y. j.1.answers y.now) _ in
    ends_alike _ (texts_of c.args.call.now) _ (AnswersListed c.args.call.now.files.items) _ _ _ _ _ _ _ _ _ _ words (carried ∙ ap AnswersListed c.deref.ensures.value) (ap Some c.new-out.ensures.items) (ap Some c.new-err.ensures.items) (sym c.from.ensures) c.run-status.ensures.ends
