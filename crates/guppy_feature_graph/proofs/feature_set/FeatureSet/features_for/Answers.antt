use Rattle.std.proofs.Common.{◌≡◌, ◌≢◌, ◌∙◌, [], Some, ap, slice_get, subst, sym}
use Rattle.workspace_record.specs.Records.{Package}
use Rattle.guppy_package_table.specs.Tables.{TableValue}
use Rattle.guppy_package_graph.specs.Finding.{IsAt}
use Rattle.guppy_package_graph.specs.Views.{graph_of, place_of}
use Rattle.guppy_feature_nodes.specs.Graphs.{FeatureGraphValue}
use Rattle.guppy_feature_graph.specs.FeaturesFor.{ListsAt, labels_in}
use Rattle.guppy_feature_graph.proofs.ListFacts.{has_none, has_some, lists_those, same_row}
use Rattle.guppy_feature_graph.proofs.feature_set.FeatureSet.features_for.Goals as goal

pub returns-in_ok-list_in-in-Ok-clause-found : goal.returns-in_ok-list_in-in-Ok-clause-found
returns-in_ok-list_in-in-Ok-clause-found c =
    let s = c.args.self.now in
    let rows = s.graph.rows in
    let m = c.in-Ok.«package» in
    let row = c.row.result.now in
    let list = c.in_ok-list_in-in-Ok in
    let found = c.in-Ok.ensures.found in
    let of_graph : c.package_graph.result.now ≡ rows = c.package_graph.ensures.rows ∙ ap (λ (x : FeatureGraphValue). x.rows) c.graph.ensures.graph in
    let graph : graph_of m ≡ rows = found.1 ∙ of_graph in
    let at : IsAt rows c.args.package_id.now (place_of m) = subst (λ (t : TableValue). IsAt t c.args.package_id.now (place_of m)) of_graph found.0 in
    let is_row : slice_get rows.packages (place_of m) ≡ Some row = subst (λ (t : TableValue). slice_get t.packages (place_of m) ≡ Some row) graph (c.deref.ensures.0 ∙ ap Some (sym c.row.ensures)) in
    let these = subst (λ (t : TableValue). ListsAt (labels_in s) t (place_of m) list.field-0) graph list.ensures in
    let some = has_some s row c.has_feature_of.result c.has_feature_of.ensures c.if-has_feature_of.true in
    lists_those s c.args.package_id.now (place_of m) list.field-0 at these (subst (λ (r : Package). labels_in s r ≢ []) (same_row rows.packages (place_of m) row these.row is_row these.is_row) some)

pub returns-in-Ok-2-clause-found : goal.returns-in-Ok-2-clause-found
returns-in-Ok-2-clause-found c =
    let s = c.args.self.now in
    let rows = s.graph.rows in
    let m = c.in-Ok.«package» in
    let row = c.row.result.now in
    let found = c.in-Ok.ensures.found in
    let of_graph : c.package_graph.result.now ≡ rows = c.package_graph.ensures.rows ∙ ap (λ (x : FeatureGraphValue). x.rows) c.graph.ensures.graph in
    record {
      place = place_of m;
      row = row;
      is_row = record {
        is_at = subst (λ (t : TableValue). IsAt t c.args.package_id.now (place_of m)) of_graph found.0;
        is_row = subst (λ (t : TableValue). slice_get t.packages (place_of m) ≡ Some row) (found.1 ∙ of_graph) (c.deref.ensures.0 ∙ ap Some (sym c.row.ensures));
      };
      none = has_none s row c.has_feature_of.result c.has_feature_of.ensures c.if-has_feature_of.false;
    }
