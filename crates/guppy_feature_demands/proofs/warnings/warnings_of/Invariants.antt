use Rattle.std.proofs.Common.{◌≡◌, ◌++◌, map, take}
use Rattle.std.specs.List.{flat_map}
use Rattle.guppy_package_parts.specs.WarningViews.{warning_view}
use Rattle.guppy_feature_demands.specs.EntriesAt.{at_warnings}
use Rattle.guppy_feature_demands.specs.EntryAtView.{entry_at_view}
use Rattle.guppy_feature_demands.specs.NumberedViews.{ends_view}
use Rattle.guppy_feature_demands.specs.Warnings.{link_warnings}
use Rattle.guppy_feature_demands.proofs.warnings.warnings_of.Given as goal

abbrev pub invariant-loop-at : goal.invariant-loop-at
invariant-loop-at l = map warning_view l.warnings.items ≡ flat_map (at_warnings l.nodes l.links) (map entry_at_view (take l.at-index l.entries))

abbrev pub invariant-loop-link : goal.invariant-loop-link
invariant-loop-link l = map warning_view l.warnings.items ≡ flat_map (at_warnings l.nodes l.links) (map entry_at_view l.entries) ++ flat_map (λ link. link_warnings l.nodes link.1) (map ends_view (take l.link-index l.all))
