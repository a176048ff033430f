use Rattle.std.proofs.Common.{◌≡◌, ◌∙◌, Some, ap, slice_get, subst, sym}
use Rattle.guppy_package_table.specs.Tables.{TableValue}
use Rattle.guppy_feature_nodes.specs.Graphs.{FeatureGraphValue}
use Rattle.guppy_package_graph.specs.Finding.{IsAt}
use Rattle.guppy_package_graph.specs.Views.{graph_of, place_of}
use Rattle.guppy_feature_graph.proofs.feature_set.FeatureSet.contains_package.Goals as goal

pub returns-in-Ok : goal.returns-in-Ok
returns-in-Ok c =
    let s = c.args.self.now in
    let rows = s.graph.rows in
    let m = c.in-Ok.«package» in
    let r = c.row.result.now in
    let found = c.in-Ok.ensures.found in
    let of_graph : c.package_graph.result.now ≡ rows = c.package_graph.ensures.rows ∙ ap (λ (x : FeatureGraphValue). x.rows) c.graph.ensures.graph in
    let graph : graph_of m ≡ rows = found.1 ∙ of_graph in
    let at : IsAt rows c.args.package_id.now (place_of m) = subst (λ (t : TableValue). IsAt t c.args.package_id.now (place_of m)) of_graph found.0 in
    let row : slice_get rows.packages (place_of m) ≡ Some r = subst (λ (t : TableValue). slice_get t.packages (place_of m) ≡ Some r) graph (c.deref.ensures.0 ∙ ap Some (sym c.row.ensures)) in
    record {
      answer = record {
        place = place_of m;
        row = r;
        is_row = record { is_at = at; is_row = row };
        says = c.has_feature_of.ensures;
      };
    }
