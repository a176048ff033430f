use Rattle.std.proofs.Common.{◌∙◌, rules, sym, tests}
use Rattle.std.proofs.lemmas.Iterator.{YieldsList-from_slice}
use Rattle.std.proofs.lemmas.Iterator.Search.{any_from_yields_List}
use Rattle.list_facts.proofs.Quantifiers.{list_any-map}
use Rattle.workspace_record.specs.Features.{feature_eq, feature_ties}
use Rattle.guppy_package_parts.proofs.SetFacts.{is_ok_from_search}
use Rattle.guppy_feature_demands.specs.IdViews.{id_view, ids_total}
use Rattle.guppy_feature_demands.specs.declared.feature_id.FeatureId.{FeatureId}
use Rattle.guppy_feature_graph.proofs.filter_by_ids.FeatureIdFilter.takes.Goals as goal

pub returns-then-self : goal.returns-then-self
returns-then-self g c =
    let ids = c.args.self.now.feature_ids.now in
    c.is_ok.ensures.value ∙ is_ok_from_search ids_total (λ x y. feature_ties (id_view x) (id_view y)) ids c.args.feature_id c.binary_search.result (c.args.self.now.ordered c.if-self.true) c.binary_search.ensures.bound c.binary_search.ensures.position ∙ sym (list_any-map (λ x. feature_eq x (id_view c.args.feature_id)) id_view ids)

pub returns-else-self : goal.returns-else-self
returns-else-self g c = any_from_yields_List (λ (x : FeatureId). feature_eq (id_view x) (id_view c.args.feature_id)) _ _ c.any.result c.any.ensures.ran (YieldsList-from_slice c.args.self.now.feature_ids.now cc) (λ x b q k. search (rules, tests)) ∙ sym (list_any-map (λ x. feature_eq x (id_view c.args.feature_id)) id_view c.args.self.now.feature_ids.now)
