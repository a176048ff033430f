use Rattle.std.proofs.Common.{◌∙◌, ℕ, ◌<◌, ◌∷◌, ◌++◌, [], ap, sym, length, map}
use Rattle.numbered_graph.specs.ListedViews.{listed_left}
use Rattle.guppy_package_graph.proofs.LastFacts.{all_last, fewer, front_within, mapped_last}
use Rattle.guppy_feature_nodes.specs.Graphs.{feature_at}
use Rattle.guppy_feature_views.proofs.feature_ids.FeatureIdsDoubleEndedIterator.next_back.Goals as goal

pub invariant_of-self : goal.invariant_of-self
invariant_of-self c =
    let within : ℕ → Type 0 = λ v. v < length c.args.self.now.built.now.nodes in
    record { in_range = front_within within _ _ c.next_back.result c.next_back.ensures.steps c.args.self.now.in_range }

pub feature_at-requires : goal.feature_at-requires
feature_at-requires c =
    let within : ℕ → Type 0 = λ v. v < length c.args.self.now.built.now.nodes in
    all_last _ _ c.in_ok-node.node c.in_ok-node.ensures.steps within c.args.self.now.in_range

pub returns : goal.returns
returns c =
    let id = feature_at c.args.self.now.built.now in
    let before = listed_left c.args.self.now.listed in
    let after = listed_left c.next_back.new.self in
    let steps = mapped_last before after c.in_ok-node.node c.in_ok-node.ensures.steps id ∙ ap (λ x. map id after ++ x ∷ []) (sym c.feature_at.ensures.feature) in
    record { steps = steps; goes = record { on = λ finite. (tt, tt, fewer _ _ _ steps); keeps = tt; rests = λ finite. tt } }
