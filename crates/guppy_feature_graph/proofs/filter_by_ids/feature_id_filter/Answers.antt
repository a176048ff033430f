use Rattle.std.proofs.Common.{◌≡◌, subst}
use Rattle.std.specs.List.{IsAllAdjacentAnswer}
use Rattle.std.specs.Ordering.{as_partial_cmp, on, partial_le}
use Rattle.workspace_record.specs.Features.{feature_cmp}
use Rattle.guppy_package_parts.proofs.SetFacts.{sorted_from_adjacent}
use Rattle.guppy_feature_demands.specs.IdViews.{id_view, ids_total}
use Rattle.guppy_feature_graph.proofs.filter_by_ids.feature_id_filter.Goals as goal

pub invariant_of-result : goal.invariant_of-result
invariant_of-result g c = record {
  ordered = λ yes. sorted_from_adjacent ids_total c.args.feature_ids.now (subst (IsAllAdjacentAnswer (λ x y b. partial_le (as_partial_cmp (on id_view feature_cmp)) x y ≡ b) c.args.feature_ids.now) yes c.is_sorted-ascending.ensures.cases);
}
