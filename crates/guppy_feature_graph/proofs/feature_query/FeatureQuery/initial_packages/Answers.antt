use Rattle.std.proofs.Common.{◌≡◌, ◌∙◌, ℕ, ap, filter, length, map, slice_get}
use Rattle.std.specs.List.{range_with_len}
use Rattle.list_facts.proofs.Lists.{filter-map}
use Rattle.guppy_package_table.specs.Tables.{TableValue}
use Rattle.guppy_package_graph.specs.AllViews.{all_graph_of, all_packages_left, first_left}
use Rattle.guppy_feature_nodes.specs.Graphs.{FeatureGraphValue}
use Rattle.guppy_feature_graph.specs.FeaturesFor.{has_row}
use Rattle.guppy_feature_graph.proofs.InitialFacts.{all_places, are_initial, initial_places, placed}
use Rattle.guppy_feature_graph.proofs.feature_query.FeatureQuery.initial_packages.Goals as goal

pub returns : goal.returns
returns c =
    let q = c.args.self.now in
    let s = c.initials-initials.result.now in
    let rows : c.package_graph.result.now ≡ q.graph.rows = c.package_graph.ensures.rows ∙ ap (λ (g : FeatureGraphValue). g.rows) c.graph.ensures.graph in
    let all : all_packages_left c.packages-packages.result ≡ map (placed q.graph.rows) (range_with_len 0 (length q.graph.rows.packages)) = all_places (all_graph_of c.packages-packages.result) q.graph.rows (first_left c.packages-packages.result) (c.packages-packages.ensures.graph ∙ rows) c.packages-packages.ensures.first in
    record {
      packages = (
        initial_places s q.graph.rows,
        are_initial q s c.initials-initials.ensures.graph c.initials-initials.ensures.initials.each,
        ap (filter (λ (p : TableValue × ℕ). has_row s (slice_get p.0.packages p.1))) all ∙ filter-map (λ (p : TableValue × ℕ). has_row s (slice_get p.0.packages p.1)) (placed q.graph.rows) (range_with_len 0 (length q.graph.rows.packages)),
      );
    }
