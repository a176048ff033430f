use Rattle.std.proofs.Common.{◌≡◌, ◌<◌, [], ℕ, All, Bool, length, rules, slice_index_or, subst, sym}
use Rattle.numbered_graph.proofs.MemberFacts.{filter_small}
use Rattle.guppy_feature_demands.specs.Nodes.{base_of}
use Rattle.guppy_feature_nodes.specs.Orders.{default_starts, starts_defaults}
use Rattle.guppy_feature_nodes.proofs.orders.default_starts.Goals as goal

pub returns-clause-within : goal.returns-clause-within
returns-clause-within c =
    let nodes = c.args.nodes.now in
    let starts : ℕ → Bool = λ v. starts_defaults nodes (slice_index_or nodes v (base_of [])) in
    let is : c.loop-number.starts.items ≡ default_starts nodes = search rules in
    subst (All (λ v. v < length nodes)) (sym is) (filter_small starts (length nodes))
