use Rattle.std.proofs.Common.{◌≡◌, map, take}
use Rattle.guppy_feature_demands.specs.IdViews.{id_view}
use Rattle.test_select_features.proofs.feature_ids.feature_ids.Given as goal

abbrev pub invariant-loop-place : goal.invariant-loop-place
invariant-loop-place l = map id_view l.ids.items ≡ take l.place l.features
