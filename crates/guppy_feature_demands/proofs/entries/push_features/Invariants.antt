use Rattle.std.proofs.Common.{◌≡◌, ◌++◌, map, take}
use Rattle.std.specs.List.{flat_map}
use Rattle.guppy_feature_demands.specs.EntriesAt.{feature_entries}
use Rattle.guppy_feature_demands.specs.EntryAtView.{entry_at_view}
use Rattle.guppy_feature_demands.specs.NamedRows.{named_view}
use Rattle.guppy_feature_demands.proofs.entries.push_features.Given as goal

abbrev pub invariant-loop-feature : goal.invariant-loop-feature
invariant-loop-feature l = map entry_at_view l.entries.items ≡ map entry_at_view l.fn.entries.items ++ flat_map (feature_entries l.id.text.now) (map named_view (take l.feature-index l.features))
