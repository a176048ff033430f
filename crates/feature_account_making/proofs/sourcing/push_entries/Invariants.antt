use Rattle.std.proofs.Common.{◌≡◌, ◌++◌, map, take}
use Rattle.std.specs.List.{flat_map}
use Rattle.feature_account_making.specs.SourceViews.{sourced_view}
use Rattle.feature_account_making.specs.Sources.{sourced_feature}
use Rattle.feature_account_making.proofs.sourcing.push_entries.Given as goal

abbrev pub invariant-loop-feature : goal.invariant-loop-feature
invariant-loop-feature l = map sourced_view l.sourced.items ≡ map sourced_view l.fn.sourced.items ++ flat_map (sourced_feature l.index l.table l.owner) (take l.feature-index l.owner.features)
