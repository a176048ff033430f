-- Sets of the packages that are on.
use Rattle.std.specs.Prelude.{◌≡◌, List}
use Rattle.std.specs.Borrow.{Bor}
use Rattle.indexmap.specs.IndexSet.{IndexSet}
use Rattle.workspace_record.specs.Features.{FeatureValue}
use Rattle.workspace_record.specs.Records.{Text}
use Rattle.workspace_record.specs.TextSets.{has_text}
use Rattle.feature_account.specs.Accounts.{concluded_set}
use Rattle.feature_account_rules.specs.RuleList.{base_of}

-- the set has the ids of the packages whose bases are among the features
abbrev pub FindsPackages : {S : Type 0} → List FeatureValue → IndexSet (Bor Text) S → Type 0
FindsPackages on packages = (id : Text) → has_text packages id ≡ concluded_set on (base_of id)
