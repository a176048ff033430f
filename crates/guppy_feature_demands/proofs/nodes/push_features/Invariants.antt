use Rattle.std.proofs.Common.{◌≡◌, ◌++◌, ◌∷◌, [], map, take, string_bytes}
use Rattle.guppy_feature_demands.specs.IdViews.{id_view}
use Rattle.guppy_feature_demands.specs.Nodes.{base_of, dep_of, named_of}
use Rattle.guppy_feature_demands.proofs.nodes.push_features.Given as goal

abbrev pub invariant-loop-feature : goal.invariant-loop-feature
invariant-loop-feature l = map id_view l.features.items ≡ (map id_view l.fn.features.items ++ base_of l.at.id.now ∷ []) ++ map (λ f. named_of l.at.id.now f.name) (take l.feature-index l.named)

abbrev pub invariant-loop-name : goal.invariant-loop-name
invariant-loop-name l = map id_view l.features.items ≡ ((map id_view l.fn.features.items ++ base_of l.at.id.now ∷ []) ++ map (λ f. named_of l.at.id.now f.name) l.at.row.now.features) ++ map (dep_of l.at.id.now) (map string_bytes (take l.name-index l.optional))
