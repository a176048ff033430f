use Rattle.std.proofs.Common.{◌↔◌, IsTrue, subst, sym}
use Rattle.guppy_feature_nodes.specs.Graphs.{FeatureGraphValue, IsDefault}
use Rattle.guppy_feature_nodes.specs.Keeping.{data_view}
use Rattle.guppy_feature_nodes.proofs.DefaultFacts.{own_default}
use Rattle.guppy_feature_nodes.proofs.feature_graph_data.FeatureGraphData.is_default.Goals as goal

pub returns : goal.returns
returns c =
    let g = data_view c.self.inside in
    let node = c.args.node in
    let told = c.self.invariant.orders.defaults node in
    let own = own_default g c.self.invariant.graph node in
    record { answer = subst (λ (x : FeatureGraphValue). IsTrue c.contains.result ↔ IsDefault x node) c.self.view_is (subst (λ b. IsTrue b ↔ IsDefault g node) (sym c.contains.ensures.member) (λ h. own.0 (told.0 h), λ h. told.1 (own.1 h))) }
