-- Filters asked about features.
use Rattle.std.specs.Prelude.{◌↔◌, ℕ, ◌<◌, Bool, List, AllPairs, Contains, map}
use Rattle.workspace_record.specs.Features.{FeatureValue}
use Rattle.guppy_feature_nodes.specs.Graphs.{FeatureGraphValue, feature_at}

-- features by their numbers, each with the answer, in the order in which they were asked about
abbrev pub Judged : Type 0
Judged = List (ℕ × Bool)

-- each feature that passes was asked about once, and no other, ascending by number (from guppy's `FeatureFilter`)
pub record AreJudged (passes : ℕ → Type 0) (judged : Judged) : Type 0 where
  pub ascending : AllPairs (λ u v. u < v) (map (λ j. j.0) judged)
  pub each : (v : ℕ) → Contains (map (λ j. j.0) judged) v ↔ passes v

-- each feature as a filter is shown it, with the graph
abbrev pub shown_features : FeatureGraphValue → Judged → List ((FeatureGraphValue × FeatureValue) × Bool)
shown_features g judged = map (λ (j : ℕ × Bool). ((g, feature_at g j.0), j.1)) judged
