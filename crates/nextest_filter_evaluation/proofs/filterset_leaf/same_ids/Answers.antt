use Rattle.std.proofs.Common.{◌∙◌, ap}
use Rattle.list_facts.specs.Ascending.{text_cmp}
use Rattle.std.specs.BTreeSet.{insert_key}
use Rattle.nextest_filter_evaluation.proofs.SetFacts.{one_more}
use Rattle.nextest_filter_evaluation.proofs.filterset_leaf.same_ids.Goals as goal

pub loop-id-preserved : goal.loop-id-preserved
loop-id-preserved c =
    let was = c.loop-id.invariant in
    (one_more c.loop-id.copies.keys _ _ _ _ c.in-Some.id.now was.0 was.1 c.in-Some.ensures.steps (c.in_ok-insert.ensures.keys ∙ ap (insert_key text_cmp c.loop-id.copies.keys) c.in_ok-id.ensures), was.1)
