use Rattle.std.proofs.Common.{◌≡◌, ◌++◌}
use Rattle.guppy_feature_views.specs.FeatureViews.{all_ids_left}
use Rattle.test_select_features.proofs.included.features_in.Given as goal

abbrev pub invariant-loop-id : goal.invariant-loop-id
invariant-loop-id l = l.features.items ++ all_ids_left l.id-iterator ≡ all_ids_left l.initial.id-iterator
