use Rattle.std.proofs.Common.{◌∙◌, ◌↔◌, Contains, ap, map, subst, take_all}
use Rattle.std.specs.BTreeSet.{insert_key}
use Rattle.list_facts.specs.Ascending.{text_cmp}
use Rattle.workspace_record.specs.Records.{Text}
use Rattle.nextest_filtering.proofs.PickFacts.{more_of, same_more}
use Rattle.nextest_filtering.proofs.matching.id_set.Goals as goal

pub loop-id-preserved : goal.loop-id-preserved
loop-id-preserved c =
    same_more c.loop-id.set.keys _ _ _ c.id-item.result.now (c.in_ok-insert.ensures.keys ∙ ap (insert_key text_cmp c.loop-id.set.keys) c.in_ok-id.ensures) (more_of (λ i. i.now) c.args.ids.now c.loop-id.id-index _ c.id-item.result c.loop-id-test.true c.id-item.is) c.loop-id.invariant

pub returns : goal.returns
returns c = subst (λ xs. (id : Text) → Contains c.loop-id.set.keys id ↔ Contains (map (λ i. i.now) xs) id) (take_all c.loop-id.id-index c.args.ids.now c.loop-id-test.false) c.loop-id.invariant
