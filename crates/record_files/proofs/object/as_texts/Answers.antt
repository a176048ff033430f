use Rattle.json.specs.Value.{value_view}
use Rattle.record_files.specs.Trees.{seen_items}
use Rattle.record_files.specs.Values.{each_text}
use Rattle.record_files.proofs.Lists.{text_step}
use Rattle.record_files.proofs.Trees.{text_seen}
use Rattle.record_files.proofs.object.as_texts.Goals as goal

pub loop-value-preserved : goal.loop-value-preserved
loop-value-preserved c =
    let values = c.deref-value-items.result.now in
    text_step values c.loop-value.value-index _ c.value-item.result c.in-Some-as_str.text.now c.in_ok-from_str.field-0 c.loop-value.texts.items c.push.new.self.items (each_text (seen_items values)) c.loop-value-test.true c.value-item.is (text_seen (value_view c.value-item.result) c.in-Some-as_str.text.now c.in-Some-as_str.ensures) c.in_ok-from_str.ensures.ok c.in_ok-push.ensures.items c.loop-value.invariant
