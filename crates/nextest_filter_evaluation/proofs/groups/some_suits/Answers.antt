use Rattle.std.proofs.Common.{ap, refl, subst, sym}
use Rattle.list_facts.specs.Texts.{texts}
use Rattle.nextest_filter_evaluation.specs.NameTests.{SuitsOneOf, name_test}
use Rattle.nextest_filter_evaluation.proofs.NameFacts.{passed_over, suits_first}
use Rattle.nextest_filter_evaluation.proofs.groups.some_suits.Goals as goal

pub loop-name-preserved : goal.loop-name-preserved
loop-name-preserved c =
    (tt, tt, passed_over _ _ _ _ _ c.in_ok-suits.field-0 (ap texts c.in-Some.ensures.steps) (rw c.as_str.ensures.value at c.in_ok-suits.ensures.matches) c.if-branch.false c.loop-name.invariant.2)

pub returns-then-branch : goal.returns-then-branch
returns-then-branch c =
    let here = (rw c.as_str.ensures.value at c.in_ok-suits.ensures.matches).0 c.if-branch.true in
    let listed = subst (SuitsOneOf (name_test c.args.matcher.now)) (sym (ap texts c.in-Some.ensures.steps)) (suits_first _ _ _ here) in
    (λ _. c.loop-name.invariant.2.1 listed, λ _. refl)
