-- The laws of accounts.
use Rattle.std.specs.Prelude.{◌≡◌, ◌↔◌, ◌+◌, ◌*◌, ◌≤◌, ℕ, List, Contains, length}
use Rattle.std.specs.List.Sorted.{IsStrictlySortedBy}
use Rattle.workspace_record.specs.Features.{FeatureValue, feature_cmp}
use Rattle.feature_account_rules.specs.Closed.{IsOn}
use Rattle.feature_account_rules.specs.declared.rule.Rule.{Rule}
use Rattle.feature_account_making.specs.Lowest.{IsLooksOf, IsLowestAccount}

-- a list of rules has one lowest account only
abbrev pub LowestAccountsAgree : Type 0
LowestAccountsAgree = (rules : List Rule) (a b : List ℕ) → IsLowestAccount rules a → IsLowestAccount rules b → a ≡ b

-- while a lowest account was made, each rule was looked at, and all of them at most once for each feature that is on and once more
abbrev pub LooksAreFew : Type 0
LooksAreFew =
    (rules : List Rule) (account : List ℕ) (looks : ℕ) (on : List FeatureValue)
    → IsLowestAccount rules account
    → IsLooksOf rules account looks
    → ((f : FeatureValue) → Contains on f ↔ IsOn rules f)
    → IsStrictlySortedBy feature_cmp on
    → looks ≤ (length on + 1) * length rules
