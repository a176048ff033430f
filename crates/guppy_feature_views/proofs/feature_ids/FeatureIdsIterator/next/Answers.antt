use Rattle.std.proofs.Common.{ℕ, ◌<◌, length}
use Rattle.guppy_package_graph.proofs.PlaceFacts.{rest_within}
use Rattle.guppy_feature_views.proofs.feature_ids.FeatureIdsIterator.next.Goals as goal

pub invariant_of-self : goal.invariant_of-self
invariant_of-self c =
    let within : ℕ → Type 0 = λ v. v < length c.args.self.now.built.now.nodes in
    record { in_range = rest_within within _ _ c.next.result c.next.ensures.steps c.args.self.now.in_range }
