use Rattle.std.proofs.Common.{◌≡◌, ◌∙◌, ap}
use Rattle.indexmap.specs.IndexSet.{insert_key}
use Rattle.workspace_record.specs.LabelView.{label_view}
use Rattle.guppy_feature_demands.specs.IdViews.{id_view}
use Rattle.guppy_package_table.specs.Tables.{ids_of, place_among}
use Rattle.guppy_feature_nodes.specs.NodeNames.{node_eq}
use Rattle.guppy_feature_nodes.proofs.NameFacts.{names_more}
use Rattle.guppy_feature_nodes.proofs.node_names.node_names.Goals as goal

pub loop-feature-preserved : goal.loop-feature-preserved
loop-feature-preserved c =
    let ids = ids_of c.args.graph.now.packages in
    let keys = c.loop-feature.names.keys in
    let feature = id_view c.feature-item.result in
    let place : c.number_of-place.result ≡ place_among ids feature.package_id = c.number_of-place.ensures.number ∙ ap (place_among ids) (c.repr.ensures ∙ c.package_id.ensures.value) in
    let label : label_view c.in_ok-label.label ≡ feature.label = c.in_ok-label.ensures ∙ c.label.ensures.value in
    let inserted = c.in_ok-insert.ensures.keys ∙ λ i. insert_key node_eq keys (record { place = place i; label = label i }) in
    names_more ids id_view c.args.features.now c.requires.known c.requires.differ c.loop-feature.feature-index c.feature-item.result c.loop-feature-test.true c.feature-item.is keys c.insert.new.self.keys c.loop-feature.invariant inserted
