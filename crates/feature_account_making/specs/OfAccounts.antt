-- Entries that are taken from an account.
use Rattle.std.specs.Prelude.{ℕ, List}
use Rattle.feature_account.specs.Explanations.{IsSublist}
use Rattle.feature_account_rules.specs.declared.rule.Rule.{Rule}
use Rattle.feature_account_making.specs.Lowest.{IsLowestAccount}

-- the entries are made of the account of what is on by dropping some
abbrev pub AreOfAccount : List Rule → List ℕ → Type 0
AreOfAccount rules entries = (account : List ℕ) × IsLowestAccount rules account × IsSublist entries account
