use Rattle.std.proofs.Common.{◌≡◌, refl, map}
use Rattle.std.proofs.lemmas.Result.{err_from_is_err_and}
use Rattle.test_select_tests.proofs.FilteringFacts.{texts_err}
use Rattle.test_select_tests.proofs.filtering.with_texts.Goals as goal

pub returns-in_err-texts : goal.returns-in_err-texts
returns-in_err-texts c =
    let p = err_from_is_err_and c.from_residual-in_err-texts.result c.from_residual-in_err-texts.ensures.1 in
    rw (p.1, p.2) (texts_err c.args.cx.now c.in_ok-groups.groups (λ x. x ≡ c.args.cx.now) c.args.record.now (map (λ t. t.now) c.args.texts.now) _ refl c.in_ok-groups.ensures.groups c.in_err-texts.ensures)

pub returns : goal.returns
returns c = (c.args.cx.now, refl, record { groups = c.in_ok-groups.groups; are_groups = c.in_ok-groups.ensures.groups; filters = c.requires.compiled; texts = c.in_ok-texts.ensures })
