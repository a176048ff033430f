use Rattle.std.proofs.Common.{◌≡◌, ◌++◌, drop, map, string_bytes, option_map}
use Rattle.record_files.specs.Trees.{seen_items}
use Rattle.record_files.specs.Values.{each_text}
use Rattle.record_files.proofs.object.as_texts.Given as goal

abbrev pub invariant-loop-value : goal.invariant-loop-value
invariant-loop-value l =
    option_map (λ ts. map string_bytes l.texts.items ++ ts) (each_text (seen_items (drop l.value-index l.value-items))) ≡ each_text (seen_items l.value-items)
