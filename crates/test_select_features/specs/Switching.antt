-- The features that are on under a choice and a table.
use Rattle.std.specs.Prelude.{◌≡◌, ℕ, List, Option, Some, None, Result, Ok, Err, not, position, Contains, IsTrue, ◌↔◌}
use Rattle.std.specs.List.Sorted.{IsStrictlySortedBy}
use Rattle.workspace_record.specs.Records.{Workspace}
use Rattle.workspace_record.specs.Features.{FeatureValue, feature_cmp}
use Rattle.workspace_record.specs.Choices.{Choice}
use Rattle.workspace_record.specs.declared.choice.PlatformTable.{PlatformTable}
use Rattle.feature_account.specs.Accounts.{concludes}
use Rattle.feature_account_rules.specs.Closed.{IsOn}
use Rattle.feature_account_rules.specs.RuleList.{rule_list}
use Rattle.feature_account_making.specs.Lowest.{IsLowestAccount, IsLooksOf}
use Rattle.feature_account_making.specs.declared.lowest_account.Account.{Account}
use Rattle.test_select_features.specs.Known.{is_known_extra}
use Rattle.test_select_checks.specs.Checks.{IsChecked}
use Rattle.test_select_checks.specs.declared.record_error.RecordError.{RecordError}
use Rattle.test_select_checks.specs.declared.record_error.RecordError.TheVariants as refused
use Rattle.test_select_checks.specs.declared.select_error.SelectError.{SelectError}
use Rattle.test_select_checks.specs.declared.select_error.SelectError.TheVariants.{Record, UnknownExtra, Filter, Lister, BadListing, Memory}

-- the place of the first extra that no workspace package has
abbrev pub unknown_extra : Workspace → Choice → Option ℕ
unknown_extra w choice = position (λ f. not (is_known_extra w f)) choice.extras

-- the record keeps the rules, and the extras are known
pub record IsServed (w : Workspace) (choice : Choice) : Type 0 where
  pub checked : IsChecked w (Ok tt)
  pub known : unknown_extra w choice ≡ None

-- the record keeps the rules, the extras are known, and these are the features that are on, ascending, each once
pub record AreOn (w : Workspace) (choice : Choice) (table : PlatformTable) (on : List FeatureValue) : Type 0 where
  pub served : IsServed w choice
  pub members : (f : FeatureValue) → Contains on f ↔ IsOn (rule_list w choice table) f
  pub ascending : IsStrictlySortedBy feature_cmp on

-- the record is refused, for another cause than memory
abbrev pub IsRefused : Workspace → RecordError → Type 0
IsRefused w (refused.Broken rule place) = IsChecked w (Err (refused.Broken rule place))
IsRefused w (refused.Filter place errors) = IsChecked w (Err (refused.Filter place errors))
IsRefused w refused.Memory = ⊥

-- the record keeps the rules, the extras are known, and each entry of the account is the lowest rule that may stand; it concludes what is on
pub record IsAccountFor (w : Workspace) (choice : Choice) (table : PlatformTable) (account : Account) : Type 0 where
  pub served : IsServed w choice
  pub lowest : IsLowestAccount (rule_list w choice table) account.rules.items
  pub on : (f : FeatureValue) → IsTrue (concludes (rule_list w choice table) account.rules.items f) ↔ IsOn (rule_list w choice table) f
  pub looks : IsLooksOf (rule_list w choice table) account.rules.items account.looks

-- what is answered is right, or the question is refused: first for the record, then for an extra
abbrev pub AnswersOrRefuses : {A : Type 0} → (A → Type 0) → Workspace → Choice → Result A SelectError → Type 0
AnswersOrRefuses right w choice (Ok answer) = right answer
AnswersOrRefuses right w choice (Err (Record e)) = IsRefused w e
AnswersOrRefuses right w choice (Err (UnknownExtra place)) = IsChecked w (Ok tt) × (unknown_extra w choice ≡ Some place)
AnswersOrRefuses right w choice (Err (Filter place faults)) = ⊥
AnswersOrRefuses right w choice (Err (Lister id)) = ⊥
AnswersOrRefuses right w choice (Err (BadListing id fault)) = ⊥
AnswersOrRefuses right w choice (Err Memory) = Unit {0}

-- the record of the question, which keeps the rules and knows the extras, or why the question is refused
abbrev pub ServesQuestion : Workspace → Choice → Result Workspace SelectError → Type 0
ServesQuestion w choice = AnswersOrRefuses (λ checked. (checked ≡ w) × IsServed w choice) w choice

-- what is on, or why it is refused
abbrev pub SwitchesOn : Workspace → Choice → PlatformTable → Result (List FeatureValue) SelectError → Type 0
SwitchesOn w choice table = AnswersOrRefuses (AreOn w choice table) w choice

-- the account of what is on, or why it is refused
abbrev pub Accounts : Workspace → Choice → PlatformTable → Result Account SelectError → Type 0
Accounts w choice table = AnswersOrRefuses (IsAccountFor w choice table) w choice
