use Rattle.std.proofs.Common.{◌≡◌, ◌++◌, map, string_bytes, take}
use Rattle.workspace_record.specs.Records.{FeatureEntry}
use Rattle.nextest_filtering.proofs.context_names.push_features.Given as goal

abbrev pub invariant-loop-feature : goal.invariant-loop-feature
invariant-loop-feature l =
    map string_bytes l.features.items ≡ map string_bytes l.fn.features.items ++ map (λ (f : FeatureEntry). f.name) (take l.feature-index l.row.features)
