use Rattle.std.proofs.Common.{◌∙◌, subst}
use Rattle.guppy_package_table.specs.Tables.{TableValue}
use Rattle.guppy_package_graph.specs.Finding.{IsAt}
use Rattle.guppy_package_graph.specs.Views.{place_of}
use Rattle.guppy_feature_views.specs.Labels.{labels_of}
use Rattle.guppy_feature_graph.specs.FeaturesFor.{ListsAt}
use Rattle.guppy_feature_graph.specs.Views.{feature_graph_of}
use Rattle.guppy_feature_graph.proofs.ListFacts.{lists_all}
use Rattle.guppy_feature_graph.proofs.feature_graph.FeatureGraph.all_features_for.Goals as goal

pub returns-in_ok-list_of-in-Ok-clause-all : goal.returns-in_ok-list_of-in-Ok-clause-all
returns-in_ok-list_of-in-Ok-clause-all c =
    let rows = (feature_graph_of c.args.self.now).rows in
    let m = c.in-Ok.«package» in
    let list = c.in_ok-list_of-in-Ok in
    let found = c.in-Ok.ensures.found in
    let at : IsAt rows c.args.package_id.now (place_of m) = subst (λ (t : TableValue). IsAt t c.args.package_id.now (place_of m)) c.package_graph.ensures.rows found.0 in
    lists_all rows c.args.package_id.now (place_of m) list.field-0 at (subst (λ (t : TableValue). ListsAt labels_of t (place_of m) list.field-0) (found.1 ∙ c.package_graph.ensures.rows) list.ensures)
