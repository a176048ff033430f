-- Labels of features: what contracts see of them, and the laws of their equality, order and hash.
use Rattle.std.specs.Prelude.{true}
use Rattle.std.specs.Ordering.{on, as_partial_cmp, eq_by_cmp}
use Rattle.std.specs.Cmp.{IsEquivalence, IsTotalOrder, IsPartialOrder, both_tied, on_total, partial_order_from_agreeing_total, unsigned_ties}
use Rattle.std.specs.Cmp.Lexicographic.{texts_ties}
use Rattle.std.proofs.Common.{◌≡◌, refl, ap}
use Rattle.workspace_record.specs.Equality.{equivalence}
use Rattle.workspace_record.specs.Features.{LabelValue, Base, Named, Dep, label_cmp, label_cmp_total, label_eq, label_kind, label_name, label_writes, labels_decide}
use Rattle.guppy_feature_demands.specs.declared.feature_label.FeatureLabel.{FeatureLabel}
use Rattle.guppy_feature_demands.specs.declared.feature_label.FeatureLabel.TheVariants as code

-- what contracts see of a label
abbrev pub label_view : FeatureLabel → LabelValue
label_view code.Base = Base
label_view (code.Named name) = Named name.now
label_view (code.OptionalDependency name) = Dep name.now

-- two labels are the same exactly where the order does not tell them apart
pub label_ties : (a b : LabelValue) → label_eq a b ≡ eq_by_cmp label_cmp a b
label_ties a b = both_tied _ _ _ _ (unsigned_ties (label_kind a) (label_kind b)) (texts_ties (label_name a) (label_name b))

pub same_label_writes : (a b : LabelValue) → label_eq a b ≡ true → label_writes a ≡ label_writes b
same_label_writes a b h = ap label_writes ((labels_decide a b).0 h)

pub labels_equivalence : IsEquivalence (on label_view label_eq)
labels_equivalence =
    let here = equivalence labels_decide in
    record {
      refl = λ x. here.refl (label_view x);
      symm = λ x y. here.symm (label_view x) (label_view y);
      congr = λ x y z. here.congr (label_view x) (label_view y) (label_view z);
    }

pub labels_total : IsTotalOrder (on label_view label_cmp)
labels_total = on_total label_view label_cmp_total

pub labels_in_order : IsPartialOrder (on label_view label_eq) (as_partial_cmp (on label_view label_cmp))
labels_in_order = partial_order_from_agreeing_total (on label_view label_cmp) labels_total (λ a b. refl) (λ a b. label_ties (label_view a) (label_view b))
