-- Features of packages: what they are, and their order.
use Rattle.std.specs.Prelude.{ℕ, zero, suc, Bool, true, [], ◌++◌, nat_eq, if◌then◌else◌}
use Rattle.std.specs.declared.cmp.Ordering.{Ordering}
use Rattle.std.specs.Ordering.{nat_cmp, on, then_cmp, eq_by_cmp, as_partial_cmp}
use Rattle.std.specs.Cmp.Lexicographic.{slice_cmp, nat_list_cmp_total, texts_ties}
use Rattle.std.proofs.Common.{◌≡◌, refl, ap}
use Rattle.std.specs.Cmp.{IsTotalOrder, IsPartialOrder, unsigned_Decides, unsigned_ties, both_tied, then_total, on_total, nat_cmp_total, partial_order_from_agreeing_total}
use Rattle.std.specs.Hash as fed
use Rattle.workspace_record.specs.Equality.{DecidesEquality, text_eq, pair_eq, texts_decide, pairs_decide, decide_by}
use Rattle.workspace_record.specs.Records.{Text, Line, Link}

-- of a `Label`: the package itself, a feature that it names, or an optional dependency
pub data LabelValue : Type 0 where
  Base : LabelValue
  Named : Text → LabelValue
  Dep : Text → LabelValue

-- of a `Feature`: the id of its package, and its label
pub record FeatureValue : Type 0 where
  pub package_id : Text
  pub label : LabelValue

-- the features of the package with an id: itself, one that it names, an optional dependency
abbrev pub base_of : Text → FeatureValue
base_of id = record { package_id = id; label = Base }

abbrev pub named_of : Text → Text → FeatureValue
named_of id name = record { package_id = id; label = Named name }

abbrev pub dep_of : Text → Text → FeatureValue
dep_of id name = record { package_id = id; label = Dep name }

-- where a line starts: at its source, or at the optional dependency
abbrev pub line_start : Link → Line → FeatureValue
line_start link line = if line.optional then dep_of link.from link.name else base_of link.from

-- the place of a label's kind in the order of labels
abbrev pub label_kind : LabelValue → ℕ
label_kind Base = 0
label_kind (Named name) = 1
label_kind (Dep name) = 2

-- the text of a label; the package itself has none
abbrev pub label_name : LabelValue → Text
label_name Base = []
label_name (Named name) = name
label_name (Dep name) = name

-- labels are ordered Base, Named, Dep, and then by bytes
abbrev pub label_cmp : LabelValue → LabelValue → Ordering
label_cmp = then_cmp (on label_kind nat_cmp) (on label_name (slice_cmp nat_cmp))

-- features are ordered by package id, and then by label
abbrev pub feature_cmp : FeatureValue → FeatureValue → Ordering
feature_cmp = then_cmp (on (λ f. f.package_id) (slice_cmp nat_cmp)) (on (λ f. f.label) label_cmp)

abbrev pub label_eq : LabelValue → LabelValue → Bool
label_eq = on (λ l. (label_kind l, label_name l)) (pair_eq nat_eq text_eq)

-- two features are the same
abbrev pub feature_eq : FeatureValue → FeatureValue → Bool
feature_eq = on (λ f. (f.package_id, f.label)) (pair_eq text_eq label_eq)

abbrev label_by : ℕ → Text → LabelValue
label_by zero name = Base
label_by (suc zero) name = Named name
label_by (suc (suc n)) name = Dep name

label_by-parts : (l : LabelValue) → label_by (label_kind l) (label_name l) ≡ l
label_by-parts Base = refl
label_by-parts (Named name) = refl
label_by-parts (Dep name) = refl

pub labels_decide : DecidesEquality label_eq
labels_decide = decide_by _ (λ p. label_by p.0 p.1) label_by-parts (pairs_decide unsigned_Decides texts_decide)

pub features_decide : DecidesEquality feature_eq
features_decide = decide_by _ (λ p. record { package_id = p.0; label = p.1 }) (λ f. refl) (pairs_decide texts_decide labels_decide)

pub label_cmp_total : IsTotalOrder label_cmp
label_cmp_total = then_total (on_total label_kind nat_cmp_total) (on_total label_name nat_list_cmp_total)

pub feature_cmp_total : IsTotalOrder feature_cmp
feature_cmp_total = then_total (on_total (λ f. f.package_id) nat_list_cmp_total) (on_total (λ f. f.label) label_cmp_total)

-- two features are the same exactly where the order does not tell them apart
pub feature_ties : (a b : FeatureValue) → feature_eq a b ≡ eq_by_cmp feature_cmp a b
feature_ties a b =
    both_tied _ _ _ _ (texts_ties a.package_id b.package_id) (both_tied _ _ _ _ (unsigned_ties (label_kind a.label) (label_kind b.label)) (texts_ties (label_name a.label) (label_name b.label)))

pub features_in_order : IsPartialOrder feature_eq (as_partial_cmp feature_cmp)
features_in_order = partial_order_from_agreeing_total feature_cmp feature_cmp_total (λ a b. refl) feature_ties

-- what a label feeds a hasher
abbrev pub label_writes : LabelValue → fed.HashWrites
label_writes Base = fed.u8 0
label_writes (Named name) = fed.u8 1 ++ fed.str name
label_writes (Dep name) = fed.u8 2 ++ fed.str name

-- what a feature feeds a hasher
abbrev pub feature_writes : FeatureValue → fed.HashWrites
feature_writes f = fed.str f.package_id ++ label_writes f.label

pub same_feature_writes : (a b : FeatureValue) → feature_eq a b ≡ true → feature_writes a ≡ feature_writes b
same_feature_writes a b h = ap feature_writes ((features_decide a b).0 h)
