use Rattle.std.proofs.Common.{◌∙◌, ℕ, ◌<◌, ◌∷◌, ◌++◌, [], ap, sym, length, map}
use Rattle.guppy_package_graph.proofs.LastFacts.{all_before, all_last, fewer, mapped_last}
use Rattle.guppy_feature_nodes.specs.Graphs.{feature_at}
use Rattle.guppy_feature_views.proofs.feature_ids_at.FeatureIdsAtDoubleEndedIterator.next_back.Goals as goal

pub invariant_of-self : goal.invariant_of-self
invariant_of-self c =
    let within : ℕ → Type 0 = λ v. v < length c.args.self.now.built.now.nodes in
    record { in_range = all_before _ _ c.in_ok-last.last.now c.in_ok-last.ensures.cases.0 within c.args.self.now.in_range }

pub feature_at-requires : goal.feature_at-requires
feature_at-requires c =
    let within : ℕ → Type 0 = λ v. v < length c.args.self.now.built.now.nodes in
    all_last _ _ c.in_ok-last.last.now c.in_ok-last.ensures.cases.0 within c.args.self.now.in_range

pub returns : goal.returns
returns c =
    let id = feature_at c.args.self.now.built.now in
    let others = c.in_ok-last.others.now in
    let steps = mapped_last c.args.self.now.nodes.now others c.in_ok-last.last.now c.in_ok-last.ensures.cases.0 id ∙ ap (λ x. map id others ++ x ∷ []) (sym c.feature_at.ensures.feature) in
    record { steps = steps; goes = record { on = λ finite. (tt, tt, fewer _ _ _ steps); keeps = tt; rests = λ finite. tt } }
