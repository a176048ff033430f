use Rattle.std.proofs.Common.{◌∙◌, ap}
use Rattle.guppy_feature_nodes.specs.EdgeViews.{edge_view}
use Rattle.guppy_feature_views.specs.Told.{told_at, told_of, told_view}
use Rattle.list_facts.proofs.Lists.{both_more}
use Rattle.guppy_feature_views.proofs.told.edges_told.Goals as goal

pub loop-number-preserved : goal.loop-number-preserved
loop-number-preserved c =
    let g = c.args.built.now in
    let e = edge_view c.edge-edge.result.now in
    let told = (λ i. record { from = c.feature_at-from.ensures.feature i; to = c.feature_at-to.ensures.feature i; form = e.form; lines = e.lines }) ∙ ap (told_of g) c.edge-edge.ensures.edge in
    both_more told_view (told_at g) c.loop-number.edges.items c.push.new.self.items _ c.args.numbers.now c.loop-number.number-index 0 c.loop-number-test.true c.in_ok-push.ensures.items told c.loop-number.invariant
