use Rattle.std.proofs.Common.{ap, map, string_bytes}
use Rattle.std.proofs.lemmas.List.{drop_all}
use Rattle.nextest_filter_evaluation.proofs.NameFacts.{passed_over}
use Rattle.nextest_filtering.proofs.PickFacts.{found_first, found_none, one_less}
use Rattle.nextest_filtering.proofs.matching.some_text_suits.Goals as goal

pub loop-name-preserved : goal.loop-name-preserved
loop-name-preserved c =
    let x = c.name-item.result in
    passed_over _ _ _ (string_bytes x) _ c.in_ok-suits.field-0 (ap (map string_bytes) (one_less c.args.names.now c.loop-name.name-index _ x c.loop-name-test.true c.name-item.is)) (rw c.as_str.ensures.value at c.in_ok-suits.ensures.matches) c.if-branch.false c.loop-name.invariant

pub returns-then-branch : goal.returns-then-branch
returns-then-branch c =
    let x = c.name-item.result in
    found_first _ _ _ (string_bytes x) _ c.in_ok-suits.field-0 (ap (map string_bytes) (one_less c.args.names.now c.loop-name.name-index _ x c.loop-name-test.true c.name-item.is)) (rw c.as_str.ensures.value at c.in_ok-suits.ensures.matches) c.if-branch.true c.loop-name.invariant

pub returns : goal.returns
returns c =
    found_none _ _ _ (ap (map string_bytes) (drop_all c.loop-name.name-index c.args.names.now c.loop-name-test.false)) c.loop-name.invariant
