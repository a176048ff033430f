-- The laws of rules, of what is on, and of accounts.
use Rattle.std.specs.Prelude.{◌≡◌, ◌≢◌, ℕ, true, List, ◌∷◌, ◌++◌, Some, IsTrue, ◌↔◌, Contains, length}
use Rattle.std.specs.List.Sorted.{IsStrictlySortedBy}
use Rattle.workspace_record.specs.Records.{Text, Workspace}
use Rattle.workspace_record.specs.Features.{FeatureValue, feature_cmp}
use Rattle.workspace_record.specs.Choices.{Choice}
use Rattle.workspace_record.specs.Tables.{answer}
use Rattle.workspace_record.specs.declared.choice.PlatformTable.{PlatformTable}
use Rattle.feature_account.specs.Accounts.{concludes, IsValidAccount}
use Rattle.feature_account_rules.specs.Closed.{IsOn}
use Rattle.feature_account.specs.Explanations.{IsExplanation, IsSublist}
use Rattle.feature_account_rules.specs.IsRule.{IsRule}
use Rattle.feature_account_rules.specs.RuleList.{rule_list}
use Rattle.feature_account_rules.specs.declared.rule.Rule.{Rule}

-- a rule stands in the list exactly if it is one of the record's rules
abbrev pub ListsEachRule : Type 0
ListsEachRule =
    (w : Workspace) (choice : Choice) (table : PlatformTable) (r : Rule) → Contains (rule_list w choice table) r ↔ IsRule w choice table r

-- two valid accounts conclude the same features, and exactly those that are on
abbrev pub AccountsAgree : Type 0
AccountsAgree =
    (rules : List Rule) (a b : List ℕ) → IsValidAccount rules a → IsValidAccount rules b → (f : FeatureValue) → (concludes rules a f ≡ concludes rules b f) × (IsTrue (concludes rules a f) ↔ IsOn rules f)

-- a valid account has as many entries as features are on
abbrev pub AccountsCountWhatIsOn : Type 0
AccountsCountWhatIsOn =
    (rules : List Rule) (account : List ℕ) (on : List FeatureValue) → IsValidAccount rules account → ((f : FeatureValue) → Contains on f ↔ IsOn rules f) → IsStrictlySortedBy feature_cmp on → length account ≡ length on

-- a list made of an explanation by dropping entries is an explanation of the same feature only if none was dropped
abbrev pub ExplanationsAreIrreducible : Type 0
ExplanationsAreIrreducible =
    (rules : List Rule) (goal : FeatureValue) (fewer entries : List ℕ) → IsExplanation rules goal entries → IsSublist fewer entries → IsExplanation rules goal fewer → fewer ≡ entries

-- what is on stays on when an extra is added
abbrev pub StaysOnWithAnExtra : Type 0
StaysOnWithAnExtra =
    (w : Workspace) (choice : Choice) (table : PlatformTable) (front back : List FeatureValue) (extra f : FeatureValue) → choice.extras ≡ front ++ back → IsOn (rule_list w choice table) f → IsOn (rule_list w (record choice { extras = front ++ extra ∷ back }) table) f

-- what is on stays on when the answer for a spec becomes yes
abbrev pub StaysOnWithAYes : Type 0
StaysOnWithAYes =
    (w : Workspace) (choice : Choice) (old new : PlatformTable) (spec : Text) (f : FeatureValue) → answer new spec ≡ Some true → ((other : Text) → other ≢ spec → answer new other ≡ answer old other) → new.unknown_counts ≡ old.unknown_counts → IsOn (rule_list w choice old) f → IsOn (rule_list w choice new) f

-- what is on stays on when unknown answers are made to count
abbrev pub StaysOnWhenUnknownsCount : Type 0
StaysOnWhenUnknownsCount =
    (w : Workspace) (choice : Choice) (old new : PlatformTable) (f : FeatureValue) → ((spec : Text) → answer new spec ≡ answer old spec) → new.unknown_counts ≡ true → IsOn (rule_list w choice old) f → IsOn (rule_list w choice new) f
