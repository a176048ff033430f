-- Explanations taken out of the account of what is on.
use Rattle.std.proofs.Common.{◌≡◌, ℕ, List, Option, Some, None, Result, Ok, Err, IfOk, IsSome, IfSome, IsTrue, ◌↔◌, Vec, refl, sym, subst, true≢false}
use Rattle.std.specs.Global.{Global}
use Rattle.workspace_record.specs.Records.{Workspace}
use Rattle.workspace_record.specs.Features.{FeatureValue}
use Rattle.workspace_record.specs.Choices.{Choice}
use Rattle.workspace_record.specs.declared.choice.PlatformTable.{PlatformTable}
use Rattle.feature_account.specs.Accounts.{concludes}
use Rattle.feature_account_rules.specs.Closed.{IsOn}
use Rattle.feature_account.specs.Explanations.{IsExplanation, IsSublist}
use Rattle.feature_account_rules.specs.RuleList.{rule_list}
use Rattle.feature_account_rules.specs.declared.rule.Rule.{Rule}
use Rattle.feature_account_making.specs.Lowest.{IsLowestAccount}
use Rattle.test_select_features.specs.Explaining.{IsExplained}

-- the entries of the lowest account explain the feature, or it is not on
explained : (w : Workspace) (choice : Choice) (table : PlatformTable) (goal : FeatureValue) (account : List ℕ) (o : Option (Vec ℕ Global)) → IsLowestAccount (rule_list w choice table) account → (IsTrue (concludes (rule_list w choice table) account goal) ↔ IsOn (rule_list w choice table) goal) → (IsSome o ↔ IsTrue (concludes (rule_list w choice table) account goal)) → IfSome o (λ v. IsExplanation (rule_list w choice table) goal v.items) → IfSome o (λ v. IsSublist v.items account) → IsExplained w choice table goal o
explained w choice table goal account (Some v) lowest on found explains in_order = record {
  on = on.0 (found.0 refl);
  explains = explains;
  account = account;
  lowest = lowest;
  in_order = in_order;
}
explained w choice table goal account None lowest on found explains in_order = λ is_on. true≢false (sym (found.1 (on.1 is_on)))

explained_if_ok : {E : Type 0} (w : Workspace) (choice : Choice) (table : PlatformTable) (goal : FeatureValue) (account : List ℕ) (r : Result (Option (Vec ℕ Global)) E) → IsLowestAccount (rule_list w choice table) account → (IsTrue (concludes (rule_list w choice table) account goal) ↔ IsOn (rule_list w choice table) goal) → IfOk r (λ o. IsSome o ↔ IsTrue (concludes (rule_list w choice table) account goal)) → IfOk r (λ o. IfSome o (λ v. IsExplanation (rule_list w choice table) goal v.items)) → IfOk r (λ o. IfSome o (λ v. IsSublist v.items account)) → IfOk r (IsExplained w choice table goal)
explained_if_ok w choice table goal account (Ok o) lowest on found explains in_order = explained w choice table goal account o lowest on found explains in_order
explained_if_ok w choice table goal account (Err e) lowest on found explains in_order = found

-- the same over rules that are the record's, and entries that are the account's
pub explained_over : {E : Type 0} (w : Workspace) (choice : Choice) (table : PlatformTable) (goal : FeatureValue) (rules same_rules : List Rule) (account entries : List ℕ) (r : Result (Option (Vec ℕ Global)) E) → rules ≡ rule_list w choice table → same_rules ≡ rule_list w choice table → entries ≡ account → IsLowestAccount rules account → ((f : FeatureValue) → IsTrue (concludes rules account f) ↔ IsOn rules f) → IfOk r (λ o. IsSome o ↔ IsTrue (concludes same_rules entries goal)) → IfOk r (λ o. IfSome o (λ v. IsExplanation same_rules goal v.items)) → IfOk r (λ o. IfSome o (λ v. IsSublist v.items entries)) → IfOk r (IsExplained w choice table goal)
explained_over w choice table goal rules same_rules account entries r is_list is_list_too is_account lowest on found explains in_order =
    explained_if_ok w choice table goal account r (subst (λ rs. IsLowestAccount rs account) is_list lowest) (subst (λ rs. IsTrue (concludes rs account goal) ↔ IsOn rs goal) is_list (on goal)) (subst (λ rs. IfOk r (λ o. IsSome o ↔ IsTrue (concludes rs account goal))) is_list_too (subst (λ ns. IfOk r (λ o. IsSome o ↔ IsTrue (concludes same_rules ns goal))) is_account found)) (subst (λ rs. IfOk r (λ o. IfSome o (λ v. IsExplanation rs goal v.items))) is_list_too explains) (subst (λ ns. IfOk r (λ o. IfSome o (λ v. IsSublist v.items ns))) is_account in_order)
