-- What lies in every closed set: what a sound account concludes, and what was on under fewer rules.
use Rattle.std.proofs.Common.{◌≡◌, ℕ, true, List, [], ◌∷◌, ◌++◌, Option, Contains, append-nil, append_assoc, refl, sym, subst, ⊎_elim, ◌↔◌, ◌∙◌}
use Rattle.std.proofs.lemmas.Bool.{and_parts, and_from}
use Rattle.list_facts.proofs.Membership.{Contains-append_cases, Contains-cons_cases, Contains-none}
use Rattle.list_facts.proofs.Quantifiers.{list_any-from_Contains, list_any_cases}
use Rattle.workspace_record.specs.Records.{Text, Workspace}
use Rattle.workspace_record.specs.Choices.{Choice}
use Rattle.workspace_record.specs.declared.choice.PlatformTable.{PlatformTable}
use Rattle.workspace_record.specs.Features.{FeatureValue, feature_eq, features_decide}
use Rattle.feature_account.specs.Accounts.{conclusions, concluded_set, concludes, IsSoundAfter, IsValidAccount}
use Rattle.feature_account_rules.specs.Closed.{FeatureSet, has_premises, IsClosed, IsOn}
use Rattle.feature_account_rules.specs.IsRule.{IsInForce}
use Rattle.feature_account_rules.specs.RuleList.{rule_list}
use Rattle.feature_account_rules.specs.declared.rule.Premises.{Premises}
use Rattle.feature_account_rules.specs.declared.rule.Premises.TheVariants as premises
use Rattle.feature_account_rules.specs.declared.rule.Rule.{Rule}
use Rattle.feature_account_rules.proofs.RuleFacts.{rule_list-grows}
use Rattle.feature_account.proofs.AccountFacts.{Contains-slice_get, conclusions-push}

-- each feature of the one set is in the other
abbrev pub IsWithin : FeatureSet → FeatureSet → Type 0
IsWithin s t = (f : FeatureValue) → s f ≡ true → t f ≡ true

-- a larger set has the premises too
has_premises-within : (s t : FeatureSet) (p : Premises) → IsWithin s t → has_premises s p ≡ true → has_premises t p ≡ true
has_premises-within s t premises.None within held = refl
has_premises-within s t (premises.One f) within held = within f held
has_premises-within s t (premises.Two f g) within held =
    let both = and_parts (s f) (s g) held in
    and_from (t f) (t g) (within f both.0) (within g both.1)

-- one feature more of the set
concluded-push_within : (s : FeatureSet) (found : List FeatureValue) (more : FeatureValue) → IsWithin (concluded_set found) s → s more ≡ true → IsWithin (concluded_set (found ++ more ∷ [])) s
concluded-push_within s found more within holds f h =
    let (x, inside, same) = list_any_cases (feature_eq f) (found ++ more ∷ []) h in
    ⊎_elim (λ i. within f (list_any-from_Contains (feature_eq f) found x i same)) (λ i. ⊎_elim (λ e. subst (λ g. s g ≡ true) (e ∙ sym ((features_decide f x).0 same)) holds) (λ none. absurd (Contains-none x none)) (Contains-cons_cases more [] x i)) (Contains-append_cases found (more ∷ []) x inside)

-- a closed set that has what the earlier entries conclude has what a sound account after them concludes
concludes-within_after : (rules : List Rule) (s : FeatureSet) → IsClosed rules s → (earlier account : List ℕ) → IsSoundAfter rules earlier account → IsWithin (concludes rules earlier) s → IsWithin (concludes rules (earlier ++ account)) s
concludes-within_after rules s closed earlier [] sound within = subst (λ xs. IsWithin (concludes rules xs) s) (sym (append-nil earlier)) within
concludes-within_after rules s closed earlier (n ∷ account) sound within =
    let rule = sound.0 in
    let holds = closed rule (Contains-slice_get rules n rule sound.1) (has_premises-within (concludes rules earlier) s rule.premises within sound.2.supported) in
    let more = subst (λ found. IsWithin (concluded_set found) s) (sym (conclusions-push rules earlier n rule sound.1)) (concluded-push_within s (conclusions rules earlier) rule.conclusion within holds) in
    subst (λ xs. IsWithin (concludes rules xs) s) (append_assoc earlier (n ∷ []) account) (concludes-within_after rules s closed (earlier ++ n ∷ []) account sound.3 more)

-- a valid account concludes exactly what is on
pub concludes_iff : (rules : List Rule) (account : List ℕ) → IsValidAccount rules account → (f : FeatureValue) → (concludes rules account f ≡ true) ↔ IsOn rules f
concludes_iff rules account valid f =
    (λ h s closed. concludes-within_after rules s closed [] account valid.sound (λ g none. cc) f h, λ on. on (concludes rules account) valid.closed)

-- what is on stays on under more rules
IsOn-grows : (rules more : List Rule) → ((r : Rule) → Contains rules r → Contains more r) → (f : FeatureValue) → IsOn rules f → IsOn more f
IsOn-grows rules more grows f on s closed = on s (λ r inside held. closed r (grows r inside) held)

-- what is on stays on where the extras are among the new ones, and what is in force stays so
pub stays_on : (w : Workspace) (choice more : Choice) (old new : PlatformTable) → more.standard ≡ choice.standard → ((f : FeatureValue) → Contains choice.extras f → Contains more.extras f) → ((spec : Option Text) → IsInForce old spec → IsInForce new spec) → (f : FeatureValue) → IsOn (rule_list w choice old) f → IsOn (rule_list w more new) f
stays_on w choice more old new same extras force =
    IsOn-grows (rule_list w choice old) (rule_list w more new) (rule_list-grows w choice more old new same extras force)
