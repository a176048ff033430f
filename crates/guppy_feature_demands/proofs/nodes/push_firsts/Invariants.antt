use Rattle.std.proofs.Common.{◌≡◌, map, take}
use Rattle.workspace_record.specs.Features.{feature_eq}
use Rattle.guppy_feature_demands.specs.IdViews.{id_view}
use Rattle.guppy_feature_demands.specs.HashedViews.{hashed_view}
use Rattle.guppy_feature_demands.specs.Nodes.{first_of_each}
use Rattle.guppy_feature_demands.proofs.nodes.push_firsts.Given as goal

abbrev pub invariant-loop-feature : goal.invariant-loop-feature
invariant-loop-feature l = record {
  kept : map hashed_view l.names.keys ≡ first_of_each feature_eq (map id_view (take l.feature-index l.features));
  same : map id_view l.ids.items ≡ map hashed_view l.names.keys;
}
