use Rattle.std.proofs.Common.{◌≡◌, ◌∙◌, true≢false, Some, None, ap, position, subst, sym}
use Rattle.std.specs.Str.{bytes_eq}
use Rattle.workspace_record.specs.Features.{FeatureValue}
use Rattle.guppy_package_table.specs.Tables.{ids_of}
use Rattle.guppy_feature_nodes.specs.Graphs.{FeatureGraphValue, feature_at}
use Rattle.guppy_feature_graph.specs.Views.{feature_graph_of}
use Rattle.guppy_feature_graph.proofs.PackageFacts.{found, not_found}
use Rattle.guppy_feature_graph.proofs.package_features.is_of_set.Goals as goal

pub returns-in-Ok : goal.returns-in-Ok
returns-in-Ok c =
    let g = feature_graph_of c.args.graph.now in
    let v = c.args.node in
    let ids = ids_of c.args.packages.now.graph.packages in
    let id : c.package_id.result.now ≡ (feature_at g v).package_id = c.package_id.ensures.value ∙ ap (λ (f : FeatureValue). f.package_id) c.feature_at-id.ensures.feature ∙ ap (λ (x : FeatureGraphValue). (feature_at x v).package_id) c.built.ensures in
    let here = c.in-Ok.ensures.found in
    found g c.args.packages.now.included v c.requires.within ids c.requires.same c.in-Ok.answer here.0 (subst (λ t. position (bytes_eq t) ids ≡ Some here.0) id here.1) here.2

pub returns-in-Err : goal.returns-in-Err
returns-in-Err c =
    let g = feature_graph_of c.args.graph.now in
    let v = c.args.node in
    let ids = ids_of c.args.packages.now.graph.packages in
    let id : c.package_id.result.now ≡ (feature_at g v).package_id = c.package_id.ensures.value ∙ ap (λ (f : FeatureValue). f.package_id) c.feature_at-id.ensures.feature ∙ ap (λ (x : FeatureGraphValue). (feature_at x v).package_id) c.built.ensures in
    (λ h. absurd (true≢false (sym h)), λ h. absurd (not_found g c.args.packages.now.included v c.requires.within ids c.requires.same (subst (λ t. position (bytes_eq t) ids ≡ None) id c.in-Err.ensures.found.0) h))
