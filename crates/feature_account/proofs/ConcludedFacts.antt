-- What a list of features concludes.
use Rattle.std.proofs.Common.{◌≡◌, true, List, Contains, refl, sym, subst, ◌↔◌}
use Rattle.list_facts.proofs.Quantifiers.{list_any-from_Contains, list_any_cases}
use Rattle.workspace_record.specs.Features.{FeatureValue, feature_eq, features_decide}
use Rattle.feature_account.specs.Accounts.{concluded_set}

-- a list concludes what it holds
pub concluded_iff : (found : List FeatureValue) (f : FeatureValue) → (concluded_set found f ≡ true) ↔ Contains found f
concluded_iff found f = (
  λ h. let p = list_any_cases (feature_eq f) found h in subst (Contains found) (sym ((features_decide f p.0).0 p.2)) p.1,
  λ h. list_any-from_Contains (feature_eq f) found f h ((features_decide f f).1 refl),
)
