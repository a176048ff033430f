use Rattle.std.proofs.Common.{◌≡◌, map, take}
use Rattle.guppy_feature_views.specs.Views.{seen}
use Rattle.guppy_feature_views.proofs.told.features_at.Given as goal

abbrev pub invariant-loop-node : goal.invariant-loop-node
invariant-loop-node l = map seen l.features.items ≡ map (λ v. (l.built, v)) (take l.node-index l.nodes)
