use Rattle.std.proofs.Common.{◌≡◌, ◌∙◌, ◌++◌, append-nil, ap, map, sym}
use Rattle.guppy_feature_nodes.specs.Graphs.{FeatureGraphValue, feature_at}
use Rattle.guppy_feature_graph.specs.Sets.{listed}
use Rattle.guppy_feature_views.specs.FeatureViews.{all_ids_left, ids_nodes_left}
use Rattle.test_select_features.proofs.included.features_in.Goals as goal

pub returns : goal.returns
returns c =
    let s = c.args.set.now in
    let found = c.loop-id.features.items in
    let items = c.feature_ids-id-items in
    let all : all_ids_left items.result ≡ map (feature_at s.graph) (listed s) =
    ap (λ (g : FeatureGraphValue). map (feature_at g) (ids_nodes_left items.result)) items.ensures.graph ∙ ap (map (feature_at s.graph)) items.ensures.listed in
    sym (append-nil found)
    ∙ ap (λ rest. found ++ rest) (sym c.in-None.ensures.steps.0)
    ∙ c.loop-id.invariant
    ∙ ap all_ids_left c.into_iter-id-iterator.ensures.into_iter_gives
    ∙ all
