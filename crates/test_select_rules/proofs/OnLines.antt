-- Tests of features, against what is on.
use Rattle.std.proofs.Common.{◌≡◌, true, List, map, String, string_bytes, sym, subst, ◌↔◌, Contains}
use Rattle.std.specs.Global.{Global}
use Rattle.std.specs.List.{list_all}
use Rattle.std.proofs.lemmas.List.Elements.{All-contains}
use Rattle.std.proofs.lemmas.List.Sums.{AllPass-from_list_all, list_all-from_AllPass}
use Rattle.list_facts.proofs.Membership.{Contains-map, Contains-map_cases}
use Rattle.list_facts.proofs.Quantifiers.{All-from_Contains}
use Rattle.workspace_record.specs.Records.{Text, Target}
use Rattle.workspace_record.specs.Features.{FeatureValue}
use Rattle.feature_account.specs.Accounts.{concluded_set}
use Rattle.feature_account_rules.specs.RuleList.{named_of}
use Rattle.test_select_rules.specs.OnLines.{HasRequired}
use Rattle.feature_account.proofs.ConcludedFacts.{concluded_iff}

module _ (on : List FeatureValue) where
  -- the features of these names are on
  pub required_iff : (id : Text) (target : Target) (names : List (String Global)) → target.required_features ≡ map string_bytes names → (list_all (λ name. concluded_set on (named_of id (string_bytes name))) names ≡ true) ↔ HasRequired (λ f. Contains on f) id target
  required_iff id target names same = (
    λ h name inside. let p = Contains-map_cases string_bytes names name (subst (λ xs. Contains xs name) same inside) in (concluded_iff on (named_of id name)).0 (subst (λ text. concluded_set on (named_of id text) ≡ true) p.2 (All-contains (λ text. concluded_set on (named_of id (string_bytes text)) ≡ true) names p.0 (AllPass-from_list_all _ names h) p.1)),
    λ each. list_all-from_AllPass _ names (All-from_Contains _ names (λ name inside. (concluded_iff on (named_of id (string_bytes name))).1 (each (string_bytes name) (subst (λ xs. Contains xs (string_bytes name)) (sym same) (Contains-map string_bytes names name inside))))),
  )
