use Rattle.std.proofs.Common.{◌∙◌, ℕ, ◌<◌, ◌∷◌, ◌++◌, [], All, List, Vec, Global, ap, sym, subst, length, map}
use Rattle.guppy_package_graph.proofs.LastFacts.{all_before, all_last, fewer, mapped_last}
use Rattle.guppy_feature_nodes.specs.Graphs.{FeatureGraphValue}
use Rattle.guppy_feature_views.specs.CycleViews.{nodes_left}
use Rattle.guppy_feature_views.proofs.all_cycles.AllCyclesDoubleEndedIterator.next_back.Goals as goal

pub invariant_of-self : goal.invariant_of-self
invariant_of-self c =
    let within : Vec ℕ Global → Type 0 = λ x. All (λ v. v < length c.args.self.now.built.now.nodes) x.items in
    record { in_range = all_before _ _ c.in_ok-last.last.now c.in_ok-last.ensures.cases.0 within c.args.self.now.in_range }

pub of-requires : goal.of-requires
of-requires c =
    let within : Vec ℕ Global → Type 0 = λ x. All (λ v. v < length c.args.self.now.built.now.nodes) x.items in
    let last = all_last _ _ c.in_ok-last.last.now c.in_ok-last.ensures.cases.0 within c.args.self.now.in_range in
    subst (All (λ v. v < length c.args.self.now.built.now.nodes)) (sym c.deref.ensures.value) last

pub returns : goal.returns
returns c =
    let g = c.args.self.now.built.now in
    let seen : Vec ℕ Global → FeatureGraphValue × List ℕ = λ x. (g, x.items) in
    let others = c.in_ok-last.others.now in
    let last = ap (λ t. (t, nodes_left c.of.result)) c.of.ensures.graph ∙ ap (λ xs. (g, xs)) (c.of.ensures.nodes ∙ c.deref.ensures.value) in
    let steps = mapped_last c.args.self.now.cycles.now others c.in_ok-last.last.now c.in_ok-last.ensures.cases.0 seen ∙ ap (λ x. map seen others ++ x ∷ []) (sym last) in
    record { steps = steps; goes = record { on = λ finite. (tt, tt, fewer _ _ _ steps); keeps = tt; rests = λ finite. tt } }
