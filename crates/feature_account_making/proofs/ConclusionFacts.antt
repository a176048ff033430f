-- Features that are concluded one after another by open rules.
use Rattle.std.proofs.Common.{◌≡◌, ℕ, ◌<◌, true, not, List, [], ◌∷◌, ◌++◌, Some, append-nil, append_assoc, refl, sym, subst, slice_get, length, filter}
use Rattle.list_facts.proofs.Tests.{and_not_parts, not_mono}
use Rattle.list_facts.proofs.Membership.{Contains-append_left, Contains-append_right, Contains-first}
use Rattle.list_facts.proofs.Counting.{length-filter-lt}
use Rattle.workspace_record.specs.Features.{FeatureValue}
use Rattle.feature_account.specs.Accounts.{concluded_set, concludes, MayStand, IsSound, IsFirstOpen}
use Rattle.feature_account_rules.specs.Closed.{FeatureSet, has_premises, is_open}
use Rattle.feature_account_rules.specs.declared.rule.Premises.{Premises}
use Rattle.feature_account_rules.specs.declared.rule.Premises.TheVariants as premises
use Rattle.feature_account_rules.specs.declared.rule.Rule.{Rule}
use Rattle.feature_account.proofs.ConcludedFacts.{concluded_iff}
use Rattle.feature_account.proofs.AccountFacts.{IsSoundAfter-push, Contains-slice_get}
use Rattle.feature_account_making.specs.Lowest.{IsLowestAfter}

-- the number of an open rule may be the next entry
pub sound-push : (rules : List Rule) (account : List ℕ) (n : ℕ) (r : Rule) → IsSound rules account → slice_get rules n ≡ Some r → is_open (concludes rules account) r ≡ true → IsSound rules (account ++ n ∷ [])
sound-push rules account n r sound known opened =
    let both = and_not_parts _ _ opened in
    let may : MayStand rules account r = record { new = both.1; supported = both.0 } in
    IsSoundAfter-push rules [] account n r sound known may

pub lowest-push : (rules : List Rule) (earlier account : List ℕ) (n : ℕ) → IsLowestAfter rules earlier account → IsFirstOpen rules (concludes rules (earlier ++ account)) n → IsLowestAfter rules earlier (account ++ n ∷ [])
lowest-push rules earlier [] n lowest first = (subst (λ xs. IsFirstOpen rules (concludes rules xs) n) (append-nil earlier) first, tt)
lowest-push rules earlier (m ∷ account) n lowest first =
    (lowest.0, lowest-push rules (earlier ++ m ∷ []) account n lowest.1 (subst (λ xs. IsFirstOpen rules (concludes rules xs) n) (sym (append_assoc earlier (m ∷ []) account)) first))

-- the rules whose conclusions are still to be found
abbrev pub left_out : List Rule → List FeatureValue → ℕ
left_out rules found = length (filter (λ r. not (concluded_set found r.conclusion)) rules)

-- an open rule was left out, and is no more
pub left_out-falls : (rules : List Rule) (found : List FeatureValue) (n : ℕ) (r : Rule) → slice_get rules n ≡ Some r → is_open (concluded_set found) r ≡ true → left_out rules (found ++ r.conclusion ∷ []) < left_out rules found
left_out-falls rules found n r known opened =
    let both = and_not_parts (has_premises (concluded_set found) r.premises) (concluded_set found r.conclusion) opened in
    let more = found ++ r.conclusion ∷ [] in
    let now_in = (concluded_iff more r.conclusion).1 (Contains-append_right found (r.conclusion ∷ []) r.conclusion (Contains-first r.conclusion [])) in
    length-filter-lt (λ q. not (concluded_set found q.conclusion)) (λ q. not (concluded_set more q.conclusion)) (λ q. not_mono _ _ (λ h. (concluded_iff more q.conclusion).1 (Contains-append_left found (r.conclusion ∷ []) q.conclusion ((concluded_iff found q.conclusion).0 h)))) rules r (Contains-slice_get rules n r known) (rw both.1) (rw now_in)

-- what is open depends on what the set has alone
pub same_premises : (s t : FeatureSet) → ((f : FeatureValue) → s f ≡ t f) → (p : Premises) → has_premises s p ≡ has_premises t p
same_premises s t same premises.None = refl
same_premises s t same (premises.One f) = same f
same_premises s t same (premises.Two f g) = rw (same f, same g)

pub same_open : (s t : FeatureSet) → ((f : FeatureValue) → s f ≡ t f) → (r : Rule) → is_open s r ≡ is_open t r
same_open s t same r = rw (same_premises s t same r.premises, same r.conclusion)
