use Rattle.std.specs.Prelude.{◌≡◌, true, [], ◌∷◌, ◌++◌}
use Rattle.std.specs.Ordering.{on}
use Rattle.std.specs.Cmp.{IsEquivalence}
use Rattle.std.specs.Hash as fed
use Rattle.std.proofs.Common.{◌∙◌, ap, sym}
use Rattle.workspace_record.specs.Equality.{equivalence}
use Rattle.workspace_record.specs.Features.{FeatureValue, LabelValue, Base, Named, Dep, feature_eq, features_decide}
use Rattle.guppy_feature_demands.specs.LabelViews.{label_view}
use Rattle.guppy_feature_demands.specs.Equivalences.{on_equivalence}
use Rattle.guppy_feature_demands.specs.IdHashes.{text_hash}
use Rattle.guppy_feature_demands.specs.declared.feature_key.FeatureKey.{FeatureKey}

-- what contracts see of a feature that is named by the id of its package and its label
abbrev pub hashed_view : FeatureKey → FeatureValue
hashed_view f = record { package_id = f.id.text.now; label = label_view f.label }

pub names_equivalence : IsEquivalence (on hashed_view feature_eq)
names_equivalence = on_equivalence hashed_view (equivalence features_decide)

-- what tells the labels of a package apart
abbrev pub label_feeds : LabelValue → fed.HashWrites
label_feeds Base = []
label_feeds (Named name) = name ∷ []
label_feeds (Dep name) = fed.u8 2 ++ (name ∷ [])

abbrev pub name_writes : FeatureKey → fed.HashWrites
name_writes f = fed.u64 f.id.hash ++ label_feeds (label_view f.label)

-- the same by what is seen of the name
abbrev by_view : FeatureValue → fed.HashWrites
by_view f = fed.u64 (text_hash f.package_id) ++ label_feeds f.label

pub same_name_writes : (a b : FeatureKey) → feature_eq (hashed_view a) (hashed_view b) ≡ true → name_writes a ≡ name_writes b
same_name_writes a b h =
    ap (λ n. fed.u64 n ++ label_feeds (label_view a.label)) a.id.known ∙ ap by_view ((features_decide (hashed_view a) (hashed_view b)).0 h) ∙ sym (ap (λ n. fed.u64 n ++ label_feeds (label_view b.label)) b.id.known)
