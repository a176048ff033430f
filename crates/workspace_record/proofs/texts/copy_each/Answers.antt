use Rattle.std.proofs.Common.{◌++◌, ◌∷◌, [], refl, sym, ◌∙◌}
use Rattle.std.proofs.lemmas.List.{take_more}
use Rattle.workspace_record.proofs.texts.copy_each.Goals as goal

pub loop-item-preserved : goal.loop-item-preserved
loop-item-preserved g c =
    let so_far = c.loop-item.invariant in
    let is = c.requires.copies c.item-item.result c.in_ok-copy.field-0 (record { shown = _; shows = refl; says = record { met = c.in_ok-copy.ensures } }) ∙ c.item-item.is in
    c.in_ok-push.ensures.items ∙ (λ j. so_far j ++ is j ∷ []) ∙ sym (take_more c.args.items.now c.loop-item.item-index c.item-item.result c.loop-item-test.true)
