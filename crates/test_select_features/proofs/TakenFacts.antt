-- What a choice's filter takes of the features of members.
use Rattle.std.proofs.Common.{◌≡◌, ◌↔◌, ◌⊎◌, ⊎_elim, inl, inr, ℕ, Bool, true, false, ◌||◌, List, [], ◌∷◌, Contains, IsTrue, map, refl, sym, subst, ap, ◌∙◌}
use Rattle.std.proofs.lemmas.Bool.{false≢true}
use Rattle.std.proofs.lemmas.List.Sorted.{Contains-permutation, IsPermutation-sym}
use Rattle.std.specs.List.Sorted.{IsPermutation}
use Rattle.list_facts.proofs.Membership.{Contains-cons_cases, Contains-map, Contains-map_cases, Contains-none}
use Rattle.list_facts.proofs.Quantifiers.{list_any-from_Contains, list_any_cases}
use Rattle.workspace_record.specs.Choices.{Choice}
use Rattle.workspace_record.specs.Features.{FeatureValue, feature_eq, features_decide}
use Rattle.guppy_package_graph.specs.Visits.{Chain}
use Rattle.guppy_package_graph.specs.Workspaces.{IsMemberPlace}
use Rattle.guppy_feature_nodes.specs.Graphs.{FeatureGraphValue, feature_at}
use Rattle.guppy_feature_graph.specs.Judging.{AreJudged, Judged, shown_features}
use Rattle.guppy_feature_graph.specs.PackageFeatures.{IsOfPackage}
use Rattle.guppy_feature_graph.specs.StandardFilters.{Accepts, Takes}
use Rattle.guppy_feature_graph.specs.WrappedFilters.{is_listed}
use Rattle.guppy_feature_graph.specs.declared.standard_features.StandardFeatures.{StandardFeatures}
use Rattle.test_select_features.specs.Starts.{IsStart, standard_of}

-- a feature is listed exactly where it stands in the list
listed_iff : (features : List FeatureValue) (f : FeatureValue) → IsTrue (is_listed features f) ↔ Contains features f
listed_iff features f = (
  λ h. let (x, there, same) = list_any_cases (λ x. feature_eq x f) features h in subst (Contains features) ((features_decide x f).0 same) there,
  λ h. list_any-from_Contains (λ x. feature_eq x f) features f h ((features_decide f f).1 refl),
)

-- what is listed in another order is listed
pub Contains_map-permutation : {A B : Type 0} (f : A → B) (xs ys : List A) (b : B) → IsPermutation xs ys → Contains (map f ys) b ↔ Contains (map f xs) b
Contains_map-permutation f xs ys b moved = (
  λ h. let (y, there, at) = Contains-map_cases f ys b h in subst (Contains (map f xs)) at (Contains-map f xs y (Contains-permutation ys xs y (IsPermutation-sym xs ys moved) there)),
  λ h. let (x, there, at) = Contains-map_cases f xs b h in subst (Contains (map f ys)) at (Contains-map f ys x (Contains-permutation xs ys x moved there)),
)

-- one of two answers
either_iff : {P Q : Type 0} (a b answer : Bool) → IsTrue a ↔ P → IsTrue b ↔ Q → answer ≡ (a || b) → IsTrue answer ↔ (P ⊎ Q)
either_iff true b answer p q is = (λ h. inl (p.0 refl), λ h. is)
either_iff false b answer p q is = (λ h. inr (q.0 (sym is ∙ h)), λ h. is ∙ ⊎_elim (λ x. absurd (false≢true (p.1 x))) q.1 h)

-- where each step of a filter says the same of the feature that it is shown, so do all
module _ {S : Type 0} (R : S → FeatureGraphValue × FeatureValue → Bool → S → Type 0) (g : FeatureGraphValue) (Says : FeatureValue → Bool → Type 0) (step : (s : S) (f : FeatureValue) (b : Bool) (t : S) → R s (g, f) b t → Says f b) where
  each : (judged : Judged) (s t : S) → Chain R s (shown_features g judged) t → (j : ℕ × Bool) → Contains judged j → Says (feature_at g j.0) j.1
  each [] s t chain j h = absurd (Contains-none j h)
  each (i ∷ is) s t (m, first, more) j h =
      ⊎_elim (λ e. subst (λ (x : ℕ × Bool). Says (feature_at g x.0) x.1) e (step s (feature_at g i.0) i.1 m first)) (each is m t more j) (Contains-cons_cases i is j h)

-- the nodes that were taken are those at which the resolve begins
pub taken_iff : (g : FeatureGraphValue) (choice : Choice) (judged : Judged) → AreJudged (IsOfPackage g (IsMemberPlace g.rows)) judged → ((j : ℕ × Bool) → Contains judged j → IsTrue j.1 ↔ (Takes (standard_of choice.standard) g (feature_at g j.0) ⊎ Contains choice.extras (feature_at g j.0))) → (v : ℕ) → Contains judged (v, true) ↔ IsStart g choice v
taken_iff g choice judged are says v = (
  λ h. record { of_member = (are.each v).0 (Contains-map (λ (j : ℕ × Bool). j.0) judged (v, true) h); taken = (says (v, true) h).0 refl },
  λ start.
      let (j, there, at) = Contains-map_cases (λ (j : ℕ × Bool). j.0) judged v ((are.each v).1 start.of_member) in
      let yes : j.1 ≡ true = (says j there).1 (subst (λ n. Takes (standard_of choice.standard) g (feature_at g n) ⊎ Contains choice.extras (feature_at g n)) (sym at) start.taken) in
      subst (Contains judged) (ap (λ n. (n, j.1)) at ∙ ap (λ b. (v, b)) yes) there,
)

-- what one step of a choice's filter says
pub filter_step : (standard s : StandardFeatures) (g : FeatureGraphValue) (features extras : List FeatureValue) (f : FeatureValue) (b taken : Bool) → s ≡ standard → Contains features f ↔ Contains extras f → Accepts s g f taken → b ≡ (taken || is_listed features f) → IsTrue b ↔ (Takes standard g f ⊎ Contains extras f)
filter_step standard s g features extras f b taken same are accepts is =
    let listed = listed_iff features f in
    either_iff taken (is_listed features f) b (subst (λ x. IsTrue taken ↔ Takes x g f) same accepts) (λ h. are.0 (listed.0 h), λ h. listed.1 (are.1 h)) is

-- what all its steps say
pub filter_says : {S : Type 0} (R : S → FeatureGraphValue × FeatureValue → Bool → S → Type 0) (g : FeatureGraphValue) (choice : Choice) → ((s : S) (f : FeatureValue) (b : Bool) (t : S) → R s (g, f) b t → IsTrue b ↔ (Takes (standard_of choice.standard) g f ⊎ Contains choice.extras f)) → (judged : Judged) (s t : S) → Chain R s (shown_features g judged) t → (j : ℕ × Bool) → Contains judged j → IsTrue j.1 ↔ (Takes (standard_of choice.standard) g (feature_at g j.0) ⊎ Contains choice.extras (feature_at g j.0))
filter_says R g choice step = each R g (λ f b. IsTrue b ↔ (Takes (standard_of choice.standard) g f ⊎ Contains choice.extras f)) step
