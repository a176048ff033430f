use Rattle.std.proofs.Common.{◌≡◌, ◌++◌, ◌∷◌, map, take, string_bytes}
use Rattle.workspace_record.specs.Features.{Base, Named, Dep}
use Rattle.guppy_feature_demands.specs.LabelViews.{label_view}
use Rattle.guppy_feature_views.proofs.labels_of_packages.package_labels.Given as goal

abbrev pub invariant-loop-feature : goal.invariant-loop-feature
invariant-loop-feature l = map label_view l.labels.items ≡ Base ∷ map (λ f. Named f.name) (take l.feature-index l.named)

abbrev pub invariant-loop-name : goal.invariant-loop-name
invariant-loop-name l = map label_view l.labels.items ≡ Base ∷ (map (λ f. Named f.name) l.row.features ++ map Dep (map string_bytes (take l.name-index l.optional)))
