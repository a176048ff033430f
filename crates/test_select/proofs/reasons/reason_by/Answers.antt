use borrow.Pointer.Hide.{carried_sameᵐ}
use mir.Syntax.{Dict}
use Rattle.std.proofs.Common.{◌∙◌}
use Rattle.clap.specs.Words.{found_of, rows_of}
use Rattle.nextest_binaries.specs.Listers.{Shown}
use Rattle.test_select.proofs.SelectionFacts.{explained_by, memory_explains}
use Rattle.test_select.proofs.reasons.reason_by.Object-1.{Members}
use Rattle.test_select.proofs.reasons.reason_by.OwnLists as own
use Rattle.test_select.proofs.reasons.reason_by.Goals as goal

pub returns-in_err-lister : goal.returns-in_err-lister
returns-in_err-lister c = record { explains = memory_explains (rows_of (found_of c.args.asked.now)) c.args.question.now c.args.listings c.from_residual.result c.from_residual.ensures.1 }

pub returns : goal.returns
returns c =
    let coerced = carried_sameᵐ Members Dict own.entry-1-1 _ own.same-1-1 Shown (λ j y. j.1.shown y.now) _ in
    record {
      explains = explained_by (rows_of (found_of c.args.asked.now)) c.args.question.now c.args.listings c.why_shared.result _ _ _ _ _ _ c.link_scope-scope.ensures.scope c.values_of-texts.ensures.values c.required-id.ensures.value c.optional-test.ensures.value (coerced ∙ c.in_ok-lister.ensures.unasked) c.why_shared.ensures.explains;
    }
