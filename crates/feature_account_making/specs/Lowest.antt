-- Accounts whose entries are the lowest that may stand, and how often rules are looked at for them.
use Rattle.std.specs.Prelude.{ℕ, ◌+◌, ◌*◌, ◌≤◌, List, [], ◌∷◌, ◌++◌, length}
use Rattle.feature_account.specs.Accounts.{concludes, IsFirstOpen, IsValidAccount}
use Rattle.feature_account_rules.specs.declared.rule.Rule.{Rule}

-- each of the entries is the lowest rule that is open after the earlier ones and those before it
abbrev pub IsLowestAfter : List Rule → List ℕ → List ℕ → Type 0
IsLowestAfter rules earlier [] = Unit {0}
IsLowestAfter rules earlier (n ∷ ns) = IsFirstOpen rules (concludes rules earlier) n × IsLowestAfter rules (earlier ++ n ∷ []) ns

-- a valid account, each entry of which is the lowest rule that may stand there
pub record IsLowestAccount (rules : List Rule) (account : List ℕ) : Type 0 where
  pub valid : IsValidAccount rules account
  pub lowest : IsLowestAfter rules [] account

-- each rule was looked at, and all of them at most once for each entry and once more
pub record IsLooksOf (rules : List Rule) (account : List ℕ) (looks : ℕ) : Type 0 where
  pub each : length rules ≤ looks
  pub few : looks ≤ (length account + 1) * length rules
