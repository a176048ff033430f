use Rattle.std.proofs.Common.{◌≡◌, map, take}
use Rattle.std.specs.List.{flat_map}
use Rattle.guppy_feature_demands.specs.EntriesAt.{package_entries}
use Rattle.guppy_feature_demands.specs.EntryAtView.{entry_at_view}
use Rattle.guppy_feature_demands.proofs.entries.entries_of.Given as goal

abbrev pub invariant-loop-at : goal.invariant-loop-at
invariant-loop-at l = map entry_at_view l.entries.items ≡ flat_map package_entries (map (λ p. p.row.now) (take l.at-index l.packages))
