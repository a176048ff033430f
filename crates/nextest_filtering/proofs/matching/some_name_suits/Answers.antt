use Rattle.std.proofs.Common.{◌∙◌, ap, map}
use Rattle.std.proofs.lemmas.List.{drop_all}
use Rattle.workspace_record.specs.Records.{Text}
use Rattle.nextest_filter_evaluation.proofs.NameFacts.{passed_over}
use Rattle.nextest_filtering.proofs.PickFacts.{found_first, found_none, one_less}
use Rattle.nextest_filtering.proofs.matching.some_name_suits.Goals as goal

pub loop-binary-preserved : goal.loop-binary-preserved
loop-binary-preserved c =
    let x : Text × Text = c.binary-item.result in
    passed_over _ _ _ x.1 _ c.in_ok-suits.field-0 (ap (map (λ (b : Text × Text). b.1)) (one_less c.args.binaries.now c.loop-binary.binary-index _ x c.loop-binary-test.true c.binary-item.is)) (rw (c.as_str.ensures.value ∙ ap (λ (b : Text × Text). b.1) c.binary.view_is) at c.in_ok-suits.ensures.matches) c.if-branch.false c.loop-binary.invariant

pub returns-then-branch : goal.returns-then-branch
returns-then-branch c =
    let x : Text × Text = c.binary-item.result in
    found_first _ _ _ x.1 _ c.in_ok-suits.field-0 (ap (map (λ (b : Text × Text). b.1)) (one_less c.args.binaries.now c.loop-binary.binary-index _ x c.loop-binary-test.true c.binary-item.is)) (rw (c.as_str.ensures.value ∙ ap (λ (b : Text × Text). b.1) c.binary.view_is) at c.in_ok-suits.ensures.matches) c.if-branch.true c.loop-binary.invariant

pub returns : goal.returns
returns c =
    found_none _ _ _ (ap (map (λ (b : Text × Text). b.1)) (drop_all c.loop-binary.binary-index c.args.binaries.now c.loop-binary-test.false)) c.loop-binary.invariant
