use Rattle.std.proofs.Common.{◌≡◌, ◌++◌, map, string_bytes, take}
use Rattle.std.specs.List.{flat_map}
use Rattle.feature_account_making.specs.SourceViews.{sourced_view}
use Rattle.feature_account_making.specs.Sources.{sourced_entry}
use Rattle.feature_account_making.proofs.sourcing.push_feature.Given as goal

abbrev pub invariant-loop-entry : goal.invariant-loop-entry
invariant-loop-entry l = map sourced_view l.sourced.items ≡ map sourced_view l.fn.sourced.items ++ flat_map (sourced_entry l.index l.table l.owner l.feature) (map string_bytes (take l.entry-index l.entry-items))
