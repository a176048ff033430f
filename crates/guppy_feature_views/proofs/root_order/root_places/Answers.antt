use Rattle.std.proofs.Common.{◌∙◌, ap, get_or, inr, sym}
use Rattle.std.specs.Str.{bytes_eq}
use Rattle.workspace_record.specs.Features.{FeatureValue}
use Rattle.guppy_feature_demands.proofs.NumberFacts.{at_place}
use Rattle.guppy_package_table.specs.Tables.{ids_of}
use Rattle.guppy_feature_nodes.specs.Graphs.{feature_at}
use Rattle.guppy_feature_views.specs.RootPlaces.{place_at, place_view}
use Rattle.guppy_feature_views.specs.declared.root_order.RootPlace.{RootPlace}
use Rattle.guppy_feature_views.proofs.RootOrderFacts.{values_more}
use Rattle.guppy_feature_views.proofs.root_order.root_places.Goals as goal

pub loop-node-preserved : goal.loop-node-preserved
loop-node-preserved c =
    let g = c.args.built.now in
    let node = get_or c.args.nodes.now c.loop-node.node-index 0 in
    let place = sym (at_place (bytes_eq (feature_at g node).package_id) (ids_of g.rows.packages) c.place_at.result c.place_at.ensures.at) in
    let label = c.label.ensures.value ∙ ap (λ (f : FeatureValue). f.label) c.feature_at.ensures.feature in
    let new : RootPlace = record { place = c.place_at.result; label = c.label.result; node = node } in
    record {
      places = values_more place_view (place_at g) c.args.nodes.now c.loop-node.node-index 0 c.loop-node-test.true c.loop-node.places.items c.push.new.self.items new c.loop-node.invariant.places (λ i. record { place = place i; label = label i; node = node }) c.in_ok-push.ensures.items;
      features = inr c.place_at.ensures.features;
    }
