use Rattle.std.proofs.Common.{◌≡◌, ◌↔◌, ◌∙◌, true, Contains, ap, map, subst, sym}
use Rattle.workspace_record.specs.Choices.{Choice}
use Rattle.workspace_record.specs.Features.{FeatureValue}
use Rattle.guppy_package_parts.specs.declared.dependency_direction.DependencyDirection.TheVariants.{Forward}
use Rattle.guppy_package_graph.proofs.PlaceFacts.{ok_more}
use Rattle.guppy_feature_demands.specs.IdViews.{id_view}
use Rattle.guppy_feature_graph.specs.Views.{feature_graph_of}
use Rattle.guppy_feature_graph.proofs.ResolveFacts.{query_by}
use Rattle.test_select_features.specs.Starts.{IsStart, standard_of}
use Rattle.test_select_features.proofs.TakenFacts.{Contains_map-permutation, filter_says, filter_step, taken_iff}
use Rattle.test_select_features.proofs.resolving.query_by.Goals as goal

pub returns : goal.returns
returns c =
    let g = feature_graph_of c.args.graph in
    let choice = c.args.choice.now in
    let filter = c.feature_id_filter-filter in
    let standard : filter.result.base ≡ standard_of choice.standard = filter.ensures.base ∙ c.standard_of.ensures ∙ ap (λ (x : Choice). standard_of x.standard) c.choice.view_is in
    let given : map id_view c.in_ok-extras.extras.items ≡ choice.extras = c.in_ok-extras.ensures ∙ c.deref-2.ensures.value ∙ ap (λ (x : Choice). x.extras) c.choice.view_is in
    let sorted : map id_view filter.result.feature_ids.now ≡ map id_view c.sort_unstable.new.self.items = ap (map id_view) (filter.ensures.feature_ids ∙ c.deref-4.ensures.value) in
    let moved = λ (f : FeatureValue). Contains_map-permutation id_view c.in_ok-extras.extras.items c.sort_unstable.new.self.items f c.sort_unstable.ensures.permutation in
    let extras : (f : FeatureValue) → Contains (map id_view filter.result.feature_ids.now) f ↔ Contains choice.extras f = λ f. (
      λ h. subst (λ xs. Contains xs f) given ((moved f).0 (subst (λ xs. Contains xs f) sorted h)),
      λ h. subst (λ xs. Contains xs f) (sym sorted) ((moved f).1 (subst (λ xs. Contains xs f) (sym given) h)),
    ) in
    ok_more c.query_workspace.result (λ q h. query_by g Forward (λ v. Contains h.0 (v, true)) (IsStart g choice) q (taken_iff g choice h.0 h.1 (filter_says _ g choice (λ s f b t step. filter_step (standard_of choice.standard) filter.result.base g (map id_view filter.result.feature_ids.now) choice.extras f b step.0 standard (extras f) step.1.0 step.2) h.0 _ _ h.2)) h.3) c.query_workspace.ensures.ok
