-- Sets of features, of one graph or of two, are told apart by the features that they have.
use Rattle.std.specs.Prelude.{◌≡◌, ℕ, ◌<◌, Bool, true, false, ◌&&◌, not, nat_lt, List, [], ◌∷◌, length}
use Rattle.std.specs.Bool.{Decides}
use Rattle.std.specs.Cmp.{IsEquivalence, booleans_Decides, both_ways, first_so, second_so}
use Rattle.std.specs.List.{list_all}
use Rattle.std.proofs.Common.{refl, sym, ◌∙◌, ap, arith, get_or}
use Rattle.std.proofs.Math.Bool.{beq}
use Rattle.std.proofs.lemmas.Bool.{false≢true}
use Rattle.std.proofs.lemmas.Bool.Decides.{nat_tests}
use Rattle.std.proofs.lemmas.List.Folds.{list_all_at}
use Rattle.std.proofs.lemmas.List.Sums.{prefix_len_stops}
use Rattle.numbered_graph.specs.Sets.{has}
use Rattle.workspace_record.specs.Features.{FeatureValue, feature_eq, features_decide}
use Rattle.guppy_feature_demands.specs.Nodes.{base_of, number_of}
use Rattle.guppy_feature_graph.specs.Sets.{SetValue}

-- whether the set's graph has a feature
abbrev pub is_known : SetValue → FeatureValue → Bool
is_known s f = nat_lt (number_of s.graph.nodes f) (length s.graph.nodes)

-- whether a feature is in the set (from guppy's `FeatureSet`)
abbrev pub has_feature : SetValue → FeatureValue → Bool
has_feature s f = is_known s f && has s.included (number_of s.graph.nodes f)

-- whether a feature is in both sets or in neither
abbrev pub agree_on : SetValue → SetValue → FeatureValue → Bool
agree_on s t f = beq (has_feature s f) (has_feature t f)

-- whether each feature of the one graph and of the other is (from guppy's `FeatureSet`)
abbrev pub have_same_features : SetValue → SetValue → Bool
have_same_features s t = list_all (agree_on s t) s.graph.nodes && list_all (agree_on s t) t.graph.nodes

-- each feature whatever is in both sets or in neither (from guppy's `FeatureSet`)
abbrev pub HaveSameFeatures : SetValue → SetValue → Type 0
HaveSameFeatures s t = (f : FeatureValue) → has_feature s f ≡ has_feature t f

-- sets are equal exactly where they have the same features
abbrev pub SetsAreToldByFeatures : Type 0
SetsAreToldByFeatures = (s t : SetValue) → Decides (have_same_features s t) (HaveSameFeatures s t)

passes : (p : FeatureValue → Bool) (xs : List FeatureValue) (i : ℕ) (b : Bool) → i < length xs → list_all p xs ≡ true → p (get_or xs i (base_of [])) ≡ b → b ≡ true
passes p xs i true within all at = refl
passes p xs i false within all at = absurd (false≢true (sym (list_all_at p xs i (base_of []) within at) ∙ all))

not_not : (b : Bool) → not b ≡ false → b ≡ true
not_not true e = refl
not_not false e = sym e

below : (m n : ℕ) → nat_lt m n ≡ true → m < n
below m n h = grind (arith, nat_tests, h)

-- what stands at the number of a feature is that feature
stands_at : (nodes : List FeatureValue) (f : FeatureValue) → number_of nodes f < length nodes → f ≡ get_or nodes (number_of nodes f) (base_of [])
stands_at nodes f within = (features_decide f (get_or nodes (number_of nodes f) (base_of []))).0 (not_not _ (prefix_len_stops (λ x. not (feature_eq f x)) nodes (base_of []) within))

-- what passes at each element passes at one that is known
passes_at : (p : FeatureValue → Bool) (nodes : List FeatureValue) (f : FeatureValue) → list_all p nodes ≡ true → nat_lt (number_of nodes f) (length nodes) ≡ true → p f ≡ true
passes_at p nodes f all is =
    let within = below (number_of nodes f) (length nodes) is in
    ap p (stands_at nodes f within) ∙ passes p nodes (number_of nodes f) _ within all refl

both : (s t : Bool) → s ≡ true → t ≡ true → (s && t) ≡ true
both true t p q = q
both false t p q = p

passes_each : (p : FeatureValue → Bool) (xs : List FeatureValue) → ((x : FeatureValue) → p x ≡ true) → list_all p xs ≡ true
passes_each p [] each = refl
passes_each p (x ∷ xs) each = both (p x) (list_all p xs) (each x) (passes_each p xs each)

module _ (s t : SetValue) (here : list_all (agree_on s t) s.graph.nodes ≡ true) (there : list_all (agree_on s t) t.graph.nodes ≡ true) (f : FeatureValue) where
  alike : (a b : Bool) → is_known s f ≡ a → is_known t f ≡ b → has_feature s f ≡ has_feature t f
  alike true b e k = (booleans_Decides _ _).0 (passes_at (agree_on s t) s.graph.nodes f here e)
  alike false true e k = (booleans_Decides _ _).0 (passes_at (agree_on s t) t.graph.nodes f there k)
  alike false false e k = ap (λ x. x && has s.included (number_of s.graph.nodes f)) e ∙ sym (ap (λ x. x && has t.included (number_of t.graph.nodes f)) k)

pub same_features_decide : (s t : SetValue) → Decides (have_same_features s t) (HaveSameFeatures s t)
same_features_decide s t =
    let here : Bool = list_all (agree_on s t) s.graph.nodes in
    let there : Bool = list_all (agree_on s t) t.graph.nodes in (
      λ h f. alike s t (first_so here there h) (second_so here there h) f _ _ refl refl,
      λ same. both here there (passes_each _ _ (λ f. (booleans_Decides _ _).1 (same f))) (passes_each _ _ (λ f. (booleans_Decides _ _).1 (same f))),
    )

pub sets_equivalence : IsEquivalence have_same_features
sets_equivalence = record {
  refl = λ s. (same_features_decide s s).1 (λ f. refl);
  symm = λ s t. both_ways _ _ (λ h. (same_features_decide t s).1 (λ f. sym ((same_features_decide s t).0 h f))) (λ h. (same_features_decide s t).1 (λ f. sym ((same_features_decide t s).0 h f)));
  congr = λ s t u e. both_ways _ _
      (λ h. (same_features_decide t u).1 (λ f. sym ((same_features_decide s t).0 e f) ∙ (same_features_decide s u).0 h f))
      (λ h. (same_features_decide s u).1 (λ f. (same_features_decide s t).0 e f ∙ (same_features_decide t u).0 h f));
}
