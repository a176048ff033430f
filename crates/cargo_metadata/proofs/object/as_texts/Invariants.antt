use Rattle.std.proofs.Common.{◌≡◌, ◌++◌, drop, map, string_bytes, option_map}
use Rattle.serde_json.specs.View.{items_view}
use Rattle.cargo_metadata.specs.Values.{each_text}
use Rattle.cargo_metadata.proofs.object.as_texts.Given as goal

abbrev pub invariant-loop-value : goal.invariant-loop-value
invariant-loop-value l =
    option_map (λ ts. map string_bytes l.texts.items ++ ts) (each_text (items_view (drop l.value-index l.value-items))) ≡ each_text (items_view l.value-items)
