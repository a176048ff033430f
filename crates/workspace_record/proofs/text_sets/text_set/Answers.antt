use Rattle.std.proofs.Common.{◌<◌, ◌≤◌, length, refl, arith}
use Rattle.workspace_record.proofs.TextFacts.{names_more, names_all, text_inserted}
use Rattle.workspace_record.proofs.text_sets.text_set.Goals as goal

pub loop-item-preserved : goal.loop-item-preserved
loop-item-preserved g c name named =
    let i = c.loop-item.item-index in
    let within : i < length c.args.items.now = omega arith in
    let is = named c.item-item.result c.text.result (record { shown = _; shows = refl; says = record { met = c.text.ensures } }) in
    names_more name c.args.items.now i c.item-item.result c.text.result.now c.loop-item.set c.insert.new.self within c.item-item.is is (text_inserted c.loop-item.set c.insert.new.self c.text.result c.in_ok-insert.ensures.updates) (c.loop-item.invariant name named)

pub returns : goal.returns
returns g c name named =
    let i = c.loop-item.item-index in
    let past : length c.args.items.now ≤ i = omega arith in
    names_all name c.args.items.now i c.loop-item.set past (c.loop-item.invariant name named)
