use Rattle.std.proofs.Common.{◌≡◌, ◌++◌, map, take, string_bytes}
use Rattle.workspace_record.specs.Entries.{entry_value}
use Rattle.guppy_feature_demands.specs.EntryAtView.{entry_at_view}
use Rattle.guppy_feature_demands.proofs.entries.push_feature.Given as goal

abbrev pub invariant-loop-text : goal.invariant-loop-text
invariant-loop-text l = map entry_at_view l.entries.items ≡ map entry_at_view l.fn.entries.items ++ map (λ text. record { package_id = l.id.text.now; feature = l.feature; entry = entry_value text }) (map string_bytes (take l.text-index l.texts))
