use Rattle.std.proofs.Common.{◌≡◌, map, take}
use Rattle.std.specs.List.{flat_map}
use Rattle.guppy_feature_demands.specs.IdViews.{id_view}
use Rattle.guppy_feature_demands.specs.Nodes.{features_of}
use Rattle.guppy_feature_demands.proofs.nodes.features_of.Given as goal

abbrev pub invariant-loop-entry : goal.invariant-loop-entry
invariant-loop-entry l = map id_view l.features.items ≡ flat_map features_of (map (λ p. p.row.now) (take l.entry-index l.packages))
