-- A set that is closed under edges is closed under what strong entries and lines demand.
use Rattle.std.proofs.Common.{◌≡◌, ℕ, zero, suc, Bool, true, false, [], refl, sym, ap, ◌∙◌}
use Rattle.workspace_record.specs.Records.{Text}
use Rattle.guppy_feature_demands.specs.Demands.{FormValue, FeatureToBase, NamedFeature, NamedFeatureDepColon, StrongSlash, WeakSlash, DependenciesSection}
use Rattle.guppy_feature_nodes.specs.Joining.{join_sort, weight}
use Rattle.test_select_feature_laws.specs.Demands.{is_firm, is_lined}
use Rattle.test_select_feature_laws.proofs.FreeFacts.{firm_sort}

-- a sort is that of such a demand
abbrev lined_sort : ℕ → Bool
lined_sort zero = false
lined_sort (suc zero) = true
lined_sort (suc (suc n)) = false

lined_by_sort : (form : FormValue) → lined_sort (join_sort form).0 ≡ is_lined form
lined_by_sort FeatureToBase = refl
lined_by_sort NamedFeature = refl
lined_by_sort NamedFeatureDepColon = refl
lined_by_sort (StrongSlash name) = refl
lined_by_sort (WeakSlash name) = refl
lined_by_sort DependenciesSection = refl

-- what joins with what leads by lines leads by lines
pub lined_joins : (a b : FormValue) → join_sort a ≡ join_sort b → is_lined b ≡ true → is_lined a ≡ true
lined_joins a b e h = sym (lined_by_sort a) ∙ ap (λ (q : ℕ × Text). lined_sort q.0) e ∙ lined_by_sort b ∙ h

-- a weight of the first sort is that of what leads always
firm_by_weight : (form : FormValue) → firm_sort (weight form).0 ≡ is_firm form
firm_by_weight FeatureToBase = refl
firm_by_weight NamedFeature = refl
firm_by_weight NamedFeatureDepColon = refl
firm_by_weight (StrongSlash name) = refl
firm_by_weight (WeakSlash name) = refl
firm_by_weight DependenciesSection = refl

pub weighs_firm : (form : FormValue) → weight form ≡ (0, []) → is_firm form ≡ true
weighs_firm form e = sym (firm_by_weight form) ∙ ap (λ (q : ℕ × Text). firm_sort q.0) e
