use Rattle.std.proofs.Common.{All, map, not, option_map, refl, subst}
use Rattle.std.proofs.lemmas.Result.{err_from_is_err_and}
use Rattle.test_select_tests.specs.QuestionFilters.{question_view}
use Rattle.test_select_tests.specs.ByteNames.{IsByteLabel}
use Rattle.test_select_tests.specs.Questions.{HasByteTexts, Question}
use Rattle.test_select_tests.specs.declared.asked_binaries.AskedBinaries.TheVariants.{LetThrough}
use Rattle.test_select_tests.proofs.ExplainingFacts.{explained_by, given_iff, refused_so}
use Rattle.test_select_tests.proofs.PlanFacts.{binaries_of_question, filters_of_question, is_spelled, on_of_question, plan_err_of_question}
use Rattle.test_select_tests.proofs.explaining.why_in.Goals as goal

pub returns-in_err-filters : goal.returns-in_err-filters
returns-in_err-filters g c =
    let q : Question = record { workspace = c.args.checked.now; choice = c.args.choice.now; table = c.args.table.now; scope = c.args.scope; texts = map (λ t. t.now) c.args.texts.now; asks = LetThrough } in
    let on = c.in_ok-on.on in
    let p = err_from_is_err_and c.from_residual-in_err-filters.result c.from_residual-in_err-filters.ensures.1 in
    rw (p.1, p.2) (refused_so q _ _ _ _ (plan_err_of_question q _ refl on c.in_ok-on.ensures.on _ c.in_err-filters.ensures.filters))

pub returns : goal.returns
returns g c =
    let q : Question = record { workspace = c.args.checked.now; choice = c.args.choice.now; table = c.args.table.now; scope = c.args.scope; texts = map (λ t. t.now) c.args.texts.now; asks = LetThrough } in
    let on = c.in_ok-on.on in
    let are_on = on_of_question q _ refl on c.in_ok-on.ensures.on in
    let filters = question_view c.in_ok-filters.filters in
    let f = filters_of_question q _ refl on c.in_ok-filters.filters c.in_ok-filters.ensures.filters in
    let given = not c.is_empty-are_given.result in
    let texts = subst HasByteTexts c.record.ensures.value c.record_names_are_bytes.ensures.texts in
    let names = subst (All (λ f. IsByteLabel f.label)) c.as_slice.ensures.value c.feature_names_are_bytes.ensures.texts in
    explained_by q c.args.id.now (option_map (λ t. t.now) c.args.test) _ on are_on filters f.0 f.1.0 (f.1.1, f.1.2) f.2 (is_spelled q on are_on texts names) given (given_iff c.args.texts.now c.is_empty-are_given.result c.is_empty-are_given.ensures) _ (binaries_of_question q _ refl on _ c.binaries-all.ensures.binaries) _ c.among.result c.among.ensures
