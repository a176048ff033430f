-- Laws of features and of their labels.
use Rattle.std.specs.Prelude.{◌≡◌, Bool, true}
use Rattle.std.specs.Cmp.{IsEquivalence, IsTotalOrder}
use Rattle.std.specs.Hash as fed
use Rattle.std.specs.Ordering.{eq_by_cmp}
use Rattle.std.specs.declared.cmp.Ordering.{Ordering}
use Rattle.guppy_feature_demands.specs.contracts.feature_id.FeatureIdHash.TheImpl as id_hash
use Rattle.guppy_feature_demands.specs.contracts.feature_id.FeatureIdOrd.TheImpl as id_order
use Rattle.guppy_feature_demands.specs.contracts.feature_id.FeatureIdPartialEq.TheImpl as id_equality
use Rattle.guppy_feature_demands.specs.contracts.feature_label.FeatureLabelHash.TheImpl as label_hash
use Rattle.guppy_feature_demands.specs.contracts.feature_label.FeatureLabelOrd.TheImpl as label_order
use Rattle.guppy_feature_demands.specs.contracts.feature_label.FeatureLabelPartialEq.TheImpl as label_equality

-- equality is an equivalence, the order is total and tells just unequal ones apart, and equal ones feed a hasher the same
pub record AreLawful {X : Type 0} (eq : X → X → Bool) (cmp : X → X → Ordering) (writes : X → fed.HashWrites) : Type 0 where
  pub equality : IsEquivalence eq
  pub order : IsTotalOrder cmp
  pub ties : (a b : X) → eq a b ≡ eq_by_cmp cmp a b
  pub hash : (a b : X) → eq a b ≡ true → writes a ≡ writes b

-- by the equality, the order and the hash of `FeatureId`
abbrev pub FeaturesAreLawful : Type 0
FeaturesAreLawful = AreLawful (id_equality.ghosts).eq (id_order.ghosts).cmp (id_hash.ghosts).hash_input

-- by those of `FeatureLabel`
abbrev pub LabelsAreLawful : Type 0
LabelsAreLawful = AreLawful (label_equality.ghosts).eq (label_order.ghosts).cmp (label_hash.ghosts).hash_input
