use Rattle.std.proofs.Common.{ap, map, true}
use Rattle.nextest_filter_evaluation.specs.Compiled.{Leaf, compiled_of}
use Rattle.nextest_filter_evaluation.specs.Formulas.{Formula, SomeAnswersGive}
use Rattle.nextest_filter_evaluation.specs.Meaning.{MayBe}
use Rattle.nextest_binaries.specs.Queries.{binary_of}
use Rattle.nextest_filtering.proofs.PickFacts.{one_less}
use Rattle.test_select_tests.proofs.SomeFacts.{some_first, some_later}
use Rattle.test_select_tests.proofs.evaluation.some_may_give_true.Goals as goal

pub returns-then-branch : goal.returns-then-branch
returns-then-branch c =
    let may : Formula Leaf → Type 0 = λ f. SomeAnswersGive (MayBe (compiled_of c.args.cx.now.default_filter.now) (binary_of c.args.binary.now)) f true in
    some_first may _ _ _ (compiled_of c.text-item.result) c.in_ok-may_give_true.field-0 (ap (map compiled_of) (one_less c.args.texts.now c.loop-text.text-index c.text-item.result c.text-item.result c.loop-text-test.true c.text-item.is)) c.in_ok-may_give_true.ensures c.if-branch.true c.loop-text.invariant

pub loop-text-preserved : goal.loop-text-preserved
loop-text-preserved c =
    let may : Formula Leaf → Type 0 = λ f. SomeAnswersGive (MayBe (compiled_of c.args.cx.now.default_filter.now) (binary_of c.args.binary.now)) f true in
    some_later may _ _ _ (compiled_of c.text-item.result) c.in_ok-may_give_true.field-0 (ap (map compiled_of) (one_less c.args.texts.now c.loop-text.text-index c.text-item.result c.text-item.result c.loop-text-test.true c.text-item.is)) c.in_ok-may_give_true.ensures c.if-branch.false c.loop-text.invariant
