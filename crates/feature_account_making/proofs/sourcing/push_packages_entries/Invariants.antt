use Rattle.std.proofs.Common.{◌≡◌, ◌++◌, map, take}
use Rattle.std.specs.List.{flat_map}
use Rattle.feature_account_making.specs.SourceViews.{sourced_view}
use Rattle.feature_account_making.specs.Sources.{sourced_entries}
use Rattle.feature_account_making.proofs.sourcing.push_packages_entries.Given as goal

abbrev pub invariant-loop-owner : goal.invariant-loop-owner
invariant-loop-owner l = map sourced_view l.sourced.items ≡ map sourced_view l.fn.sourced.items ++ flat_map (sourced_entries l.index l.table) (take l.owner-index l.packages)
