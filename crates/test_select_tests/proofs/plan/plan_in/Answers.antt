use Rattle.std.proofs.Common.{All, Contains, map, subst}
use Rattle.std.proofs.lemmas.Result.{err_from_is_err_and}
use Rattle.test_select_rules.specs.BinaryView.{binary_view}
use Rattle.test_select_tests.specs.QuestionFilters.{question_view}
use Rattle.test_select_tests.specs.Kept.{AreThose}
use Rattle.test_select_tests.specs.Plans.{MayMatch}
use Rattle.test_select_tests.specs.ByteNames.{IsByteLabel}
use Rattle.test_select_tests.specs.Questions.{HasByteTexts, Question}
use Rattle.test_select_tests.proofs.PlanFacts.{is_spelled, plan_err, plan_made}
use Rattle.test_select_tests.proofs.plan.plan_in.Goals as goal

pub returns-in_err-filters : goal.returns-in_err-filters
returns-in_err-filters c =
    let q : Question = record { workspace = c.args.checked; choice = c.args.choice.now; table = c.args.table.now; scope = c.args.scope; texts = map (λ t. t.now) c.args.texts.now; asks = c.args.asks } in
    let p = err_from_is_err_and c.from_residual-in_err-filters.result c.from_residual-in_err-filters.ensures.1 in
    rw (p.1, p.2) (plan_err q c.in_ok-on.on c.in_ok-on.ensures.on _ c.in_err-filters.ensures.filters)

pub returns : goal.returns
returns c =
    let q : Question = record { workspace = c.args.checked; choice = c.args.choice.now; table = c.args.table.now; scope = c.args.scope; texts = map (λ t. t.now) c.args.texts.now; asks = c.args.asks } in
    let on = c.in_ok-on.on in
    let filters = question_view c.in_ok-filters.filters in
    let f = c.in_ok-filters.ensures.filters in
    let kept = c.in_ok-binaries_that_may_match.field-0.items in
    let those = subst (λ bs. AreThose (MayMatch q.asks (λ f. Contains on f) filters) bs (map binary_view kept)) c.into_binaries-all.ensures.binaries c.in_ok-binaries_that_may_match.ensures in
    let texts = subst HasByteTexts c.record.ensures.value c.record_names_are_bytes.ensures.texts in
    let names = subst (All (λ f. IsByteLabel f.label)) c.as_slice.ensures.value c.feature_names_are_bytes.ensures.texts in
    let spelled = is_spelled q on c.in_ok-on.ensures.on texts names in
    plan_made q on c.in_ok-on.ensures.on filters f.0 f.1.0 (f.1.1, f.1.2) f.2 kept c.in_ok-asked.asked.items those c.in_ok-asked.ensures.ascending c.in_ok-asked.ensures.all_of_them spelled
