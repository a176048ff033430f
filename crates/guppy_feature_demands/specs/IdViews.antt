-- Ids of features: what contracts see of them, and the laws of their equality, order and hash.
use Rattle.std.specs.Ordering.{on, as_partial_cmp}
use Rattle.std.specs.Cmp.{IsEquivalence, IsTotalOrder, IsPartialOrder, on_total, partial_order_from_agreeing_total}
use Rattle.std.proofs.Common.{refl}
use Rattle.workspace_record.specs.Equality.{equivalence}
use Rattle.workspace_record.specs.Features.{FeatureValue, feature_eq, feature_cmp, feature_cmp_total, feature_ties, features_decide}
use Rattle.guppy_feature_demands.specs.declared.feature_id.FeatureId.{FeatureId}
use Rattle.guppy_feature_demands.specs.LabelViews.{label_view}

-- what contracts see of an id (from guppy's `FeatureId`, `FeatureLabel`)
abbrev pub id_view : FeatureId → FeatureValue
id_view f = record { package_id = f.package_id.now; label = label_view f.label }

pub ids_equivalence : IsEquivalence (on id_view feature_eq)
ids_equivalence =
    let here = equivalence features_decide in
    record {
      refl = λ x. here.refl (id_view x);
      symm = λ x y. here.symm (id_view x) (id_view y);
      congr = λ x y z. here.congr (id_view x) (id_view y) (id_view z);
    }

pub ids_total : IsTotalOrder (on id_view feature_cmp)
ids_total = on_total id_view feature_cmp_total

pub ids_in_order : IsPartialOrder (on id_view feature_eq) (as_partial_cmp (on id_view feature_cmp))
ids_in_order = partial_order_from_agreeing_total (on id_view feature_cmp) ids_total (λ a b. refl) (λ a b. feature_ties (id_view a) (id_view b))
