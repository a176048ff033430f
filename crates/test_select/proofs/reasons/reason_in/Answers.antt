use Rattle.std.proofs.Common.{◌∙◌, Result, subst, sym}
use Rattle.clap.specs.Words.{found_of, rows_of}
use Rattle.test_select_checks.specs.declared.select_error.SelectError.{SelectError}
use Rattle.test_select_tests.specs.declared.reason.Reason.{Reason}
use Rattle.test_select.specs.Selections.{SaysWhy}
use Rattle.test_select.proofs.SelectionFacts.{unblamed_says, unlisted_says}
use Rattle.test_select.proofs.reasons.reason_in.Goals as goal

pub returns-then-is_listed : goal.returns-then-is_listed
returns-then-is_listed c =
    let words = rows_of (found_of c.args.asked.now) in
    let q = c.args.question.now in
    record { says = subst (λ (r : Result Reason SelectError). SaysWhy words q c.args.listings r) (sym c.unblamed.ensures) (unblamed_says words q c.args.listings c.reason_by-reason.result c.reason_by-reason.ensures.explains) }

pub returns-else-is_listed : goal.returns-else-is_listed
returns-else-is_listed c =
    let words = rows_of (found_of c.args.asked.now) in
    let q = c.args.question.now in
    record { says = unlisted_says words q c.args.listings c.reason_by-reason.result c.required.result.now c.required.ensures.value (sym c.if-is_listed.false ∙ c.contains_key-is_listed.ensures) c.reason_by-reason.ensures.explains }
