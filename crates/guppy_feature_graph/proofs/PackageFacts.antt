-- Packages of features, and which features have been looked at.
use Rattle.std.proofs.Common.{◌≡◌, ◌↔◌, ◌⊎◌, ⊎_elim, inl, inr, ℕ, ◌+◌, ◌<◌, Bool, List, Option, Some, None, Contains, IsTrue, length, map, position, sym, subst, ap, ◌∙◌, arith}
use Rattle.std.specs.Str.{bytes_eq}
use Rattle.std.proofs.lemmas.Bool.{cases_lt}
use Rattle.numbered_graph.specs.Sets.{has}
use Rattle.workspace_record.specs.Records.{Text}
use Rattle.guppy_package_table.specs.Tables.{ids_of}
use Rattle.guppy_feature_nodes.specs.Graphs.{FeatureGraphValue, feature_at}
use Rattle.guppy_feature_graph.specs.PackageFeatures.{IsOfFeature, IsOfPackage, IsOfSet}
use Rattle.guppy_feature_graph.specs.Sets.{SetValue}
use Rattle.guppy_package_graph.specs.Finding.{IsAt, IsNamed}
use Rattle.list_facts.proofs.Membership.{Contains-map, Contains-map_cases}
use Rattle.list_facts.proofs.Quantifiers.{Any-from_Contains, Any_cases}

abbrev place_of : Option ℕ → ℕ
place_of (Some n) = n
place_of None = 0

none_there : {n : ℕ} → Some n ≡ None → ⊥
none_there e = absurd cc

-- one place has the id
one_place : (a b : ℕ) (found : Option ℕ) → found ≡ Some a → found ≡ Some b → a ≡ b
one_place a b found e f = ap place_of (sym e ∙ f)

module _ (g : FeatureGraphValue) (included : List Bool) (v : ℕ) (within : v < length g.nodes) (ids : List Text) (same : ids ≡ ids_of g.rows.packages) where
  abbrev id : Text
  id = (feature_at g v).package_id

  -- the package was found in the set, or not
  pub found : (answer : Bool) (place : ℕ) → position (bytes_eq id) ids ≡ Some place → answer ≡ has included place → IsTrue answer ↔ IsOfSet g included v
  found answer place at is = (
    λ h. record { within = within; place = place; is_at = ap (position (bytes_eq id)) (sym same) ∙ at; is = sym is ∙ h },
    λ h. is ∙ ap (has included) (one_place place h.place (position (bytes_eq id) (ids_of g.rows.packages)) (ap (position (bytes_eq id)) (sym same) ∙ at) h.is_at) ∙ h.is,
  )

  pub not_found : position (bytes_eq id) ids ≡ None → IsOfSet g included v → ⊥
  not_found none h = none_there (sym h.is_at ∙ ap (position (bytes_eq id)) (sym same) ∙ none)

-- the features below a number that pass
pub record AreBelow (n : ℕ) (passes : ℕ → Type 0) (flags : List Bool) : Type 0 where
  pub each : (v : ℕ) → IsTrue (has flags v) ↔ ((v < n) × passes v)

pub below_none : (passes : ℕ → Type 0) (flags : List Bool) → ((v : ℕ) → IsTrue (has flags v) → ⊥) → AreBelow 0 passes flags
below_none passes flags clear = record { each = λ v. (λ h. absurd (clear v h), λ h. absurd (omega (arith, h.0))) }

pub below_more : (n : ℕ) (passes : ℕ → Type 0) (before after : List Bool) (wanted : Bool) → (IsTrue wanted ↔ passes n) → ((w : ℕ) → IsTrue (has after w) ↔ (IsTrue (has before w) ⊎ (IsTrue wanted × (w ≡ n)))) → AreBelow n passes before → AreBelow (n + 1) passes after
below_more n passes before after wanted same members was = record {
  each = λ v. (
    λ h. ⊎_elim (λ old. let parts = (was.each v).0 old in let lt = parts.0 in (omega (arith, lt), parts.1)) (λ new. let is = new.1 in (omega (arith, is), subst passes (sym is) (same.0 new.0))) ((members v).0 h),
    λ h. (members v).1 (⊎_elim (λ lt. inl ((was.each v).1 (lt, h.1))) (λ is. inr (same.1 (subst passes is h.1), is)) (at_or_below v n h.0)),
  );
}
  where
    at_or_below : (v n : ℕ) → v < n + 1 → (v < n) ⊎ (v ≡ n)
    at_or_below v n lt = ⊎_elim (λ below. inl below) (λ above. inr (omega (arith, lt, above))) (cases_lt v n)

-- all were looked at
pub below_all : (n : ℕ) (passes : ℕ → Type 0) (flags : List Bool) → AreBelow n passes flags → ((v : ℕ) → passes v → v < n) → (v : ℕ) → IsTrue (has flags v) ↔ passes v
below_all n passes flags are small v = (λ h. ((are.each v).0 h).1, λ h. (are.each v).1 (small v h, h))

-- features of packages that pass one test or another that says the same
pub of_package_by : (g : FeatureGraphValue) (P Q : ℕ → Type 0) (v : ℕ) → ((place : ℕ) → P place ↔ Q place) → IsOfPackage g P v ↔ IsOfPackage g Q v
of_package_by g P Q v same = (
  λ h. record { within = h.within; place = h.place; is_at = h.is_at; is = (same h.place).0 h.is },
  λ h. record { within = h.within; place = h.place; is_at = h.is_at; is = (same h.place).1 h.is },
)

-- one of the ids of the features of a set has its package at the place
pub named_features : (s : SetValue) (nodes : List ℕ) (ids : List Text) (place : ℕ) → ((v : ℕ) → Contains nodes v ↔ IsTrue (has s.included v)) → ids ≡ map (λ v. (feature_at s.graph v).package_id) nodes → IsNamed s.graph.rows ids place ↔ IsOfFeature s place
named_features s nodes ids place members are = (there, back)
  where
    there : IsNamed s.graph.rows ids place → IsOfFeature s place
    there h =
        let found = Any_cases (λ id. IsAt s.graph.rows id place) ids h in
        let node = Contains-map_cases (λ v. (feature_at s.graph v).package_id) nodes found.0 (subst (λ xs. Contains xs found.0) are found.1) in
        record { node = node.0; is_in = (members node.0).0 node.1; is_at = subst (λ id. IsAt s.graph.rows id place) (sym node.2) found.2 }

    back : IsOfFeature s place → IsNamed s.graph.rows ids place
    back h =
        Any-from_Contains (λ id. IsAt s.graph.rows id place) ids (feature_at s.graph h.node).package_id (subst (λ xs. Contains xs (feature_at s.graph h.node).package_id) (sym are) (Contains-map (λ v. (feature_at s.graph v).package_id) nodes h.node ((members h.node).1 h.is_in))) h.is_at
