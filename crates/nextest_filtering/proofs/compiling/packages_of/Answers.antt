use Rattle.nextest_filter_evaluation.specs.NameTests.{name_test}
use Rattle.nextest_filtering.specs.Meaning.{IsMatched}
use Rattle.nextest_filtering.proofs.AcceptFacts.{expected, packages_as, reached_alike, some_matched}
use Rattle.nextest_filtering.proofs.compiling.packages_of.Goals as goal

pub returns-in-None-clause-packages : goal.returns-in-None-clause-packages
returns-in-None-clause-packages c =
    rw c.in-None.is (packages_as (λ i. i.now) (IsMatched c.args.cx.now (name_test c.args.matcher.now)) c.in_ok-ids-in-None.ids.keys _ _ c.deref.ensures.value c.in_ok-ids-in-None.ensures c.in_ok-matched.ensures)

pub returns-in-None-clause-faults : goal.returns-in-None-clause-faults
returns-in-None-clause-faults c =
    expected _ _ _ _ _ (some_matched c.args.cx.now (name_test c.args.matcher.now) (λ i. i.now) c.in_ok-matched.matched.items _ _ c.in_ok-matched.matched.ok.0 c.in_ok-matched.ensures c.is_empty-is_some.ensures) c.in_ok-expect.ensures

pub returns-clause-packages : goal.returns-clause-packages
returns-clause-packages c =
    let each = reached_alike (λ i. i.now) c.args.cx.now c.in-Some.direction (IsMatched c.args.cx.now (name_test c.args.matcher.now)) _ _ c.deref-in-Some.ensures.value c.in_ok-matched.ensures _ c.in_ok-reached-in-Some.ensures in
    rw c.in-Some.is (packages_as (λ i. i.now) _ c.in_ok-ids-in-Some.ids.keys _ _ c.deref-in-Some-2.ensures.value c.in_ok-ids-in-Some.ensures each)

pub returns-clause-faults : goal.returns-clause-faults
returns-clause-faults c =
    expected _ _ _ _ _ (some_matched c.args.cx.now (name_test c.args.matcher.now) (λ i. i.now) c.in_ok-matched.matched.items _ _ c.in_ok-matched.matched.ok.0 c.in_ok-matched.ensures c.is_empty-is_some.ensures) c.in_ok-expect.ensures
