use Rattle.std.proofs.Common.{◌≡◌, map, take}
use Rattle.workspace_record.specs.Features.{FeatureValue}
use Rattle.test_select_features.proofs.feature_ids.package_ids.Given as goal

abbrev pub invariant-loop-feature : goal.invariant-loop-feature
invariant-loop-feature l = l.ids.items ≡ map (λ (f : FeatureValue). f.package_id) (take l.feature-index l.features)
