use Rattle.std.proofs.Common.{map}
use Rattle.guppy_feature_demands.specs.DemandViews.{numbered_view}
use Rattle.guppy_feature_nodes.specs.JoinedViews.{joined_view}
use Rattle.guppy_feature_nodes.specs.KeyViews.{key_view}
use Rattle.guppy_feature_nodes.proofs.JoinFacts.{joined_ok}
use Rattle.guppy_feature_nodes.proofs.joining.edges_by.Goals as goal

pub returns : goal.returns
returns c =
    joined_ok (map numbered_view c.args.demands.items) c.in_ok-groups.groups.map.entries (map key_view c.args.weights.now.keys) c.edges_of.result (λ v. map joined_view v.items) (rw c.deref.ensures.value at c.in_ok-groups.ensures.entries) c.requires c.edges_of.ensures
