use Rattle.std.proofs.Common.{true≢false, sym, ◌∙◌}
use Rattle.guppy_feature_demands.specs.IdViews.{id_view}
use Rattle.guppy_feature_graph.specs.Views.{feature_graph_of}
use Rattle.guppy_feature_graph.proofs.FoundFacts.{known}
use Rattle.guppy_feature_graph.proofs.standard_features.is_default.Goals as goal

pub returns-in-Ok : goal.returns-in-Ok
returns-in-Ok c = (λ h. (c.in-Ok.ensures.answer.0, c.in-Ok.ensures.answer.1.0 h), λ h. c.in-Ok.ensures.answer.1.1 h.1)

pub returns-in-Err : goal.returns-in-Err
returns-in-Err c =
    let g = feature_graph_of c.args.graph.now in
    (λ h. absurd (true≢false (sym h)), λ h. absurd (true≢false (sym (known g.nodes (id_view c.args.feature_id) h.0) ∙ c.in-Err.ensures.answer.0)))
