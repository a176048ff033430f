use mathlib.Core.List.{map-id}
use Rattle.workspace_record.specs.Features.{feature_cmp, feature_cmp_total, feature_ties}
use Rattle.list_facts.proofs.Ascending.{ascending_of_sort}
use Rattle.test_select_rules.proofs.FeatureOrder.{feature_exact}
use Rattle.test_select_rules.proofs.features.sorted_features.Goals as goal

pub returns : goal.returns
returns c =
    let h = ascending_of_sort (λ f. f) feature_cmp feature_cmp_total feature_exact _ feature_ties _ _ _ c.in_ok-sort.ensures.permutation c.in_ok-sort.ensures.sorted c.dedup.ensures.filtered in
    simp map-id at h
