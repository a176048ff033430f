-- What lists of entries conclude.
use Rattle.std.proofs.Common.{◌≡◌, ℕ, ⊎_elim, true, ◌||◌, List, [], ◌∷◌, ◌++◌, Some, refl, sym, ◌∙◌, ap, subst, slice_get, true≢false}
use Rattle.std.specs.List.{cons_option}
use Rattle.std.specs.Option.{option_map}
use Rattle.std.proofs.lemmas.Bool.{or_cases, or_left, or_right}
use Rattle.std.proofs.lemmas.List.Elements.{filter_map-append}
use Rattle.std.proofs.lemmas.List.Folds.{list_any-append}
use Rattle.workspace_record.specs.Features.{FeatureValue, feature_eq, features_decide}
use Rattle.feature_account.specs.Accounts.{conclusions, concluded_set, concludes, IsSoundAfter}
use Rattle.feature_account.specs.Explanations.{EndsIn}
use Rattle.feature_account_rules.specs.declared.rule.Rule.{Rule}
use Rattle.feature_account.proofs.ClosedSets.{IsWithin}

-- what two lists conclude, one after the other
pub concludes-append : (rules : List Rule) (front back : List ℕ) (f : FeatureValue) → concludes rules (front ++ back) f ≡ (concludes rules front f || concludes rules back f)
concludes-append rules front back f =
    ap (λ xs. concluded_set xs f) (filter_map-append _ front back) ∙ list_any-append (feature_eq f) (conclusions rules front) (conclusions rules back)

-- what an account with one entry more in front concludes
pub concludes-cons : (rules : List Rule) (n : ℕ) (account : List ℕ) (r : Rule) → slice_get rules n ≡ Some r → (f : FeatureValue) → concludes rules (n ∷ account) f ≡ (feature_eq f r.conclusion || concludes rules account f)
concludes-cons rules n account r known f =
    ap (λ o. concluded_set (cons_option (option_map (λ (q : Rule). q.conclusion) o) (conclusions rules account)) f) known

-- a feature is itself
pub same_feature : (f : FeatureValue) → feature_eq f f ≡ true
same_feature f = (features_decide f f).1 refl

-- what was concluded before is not concluded again
pub not_again : (rules : List Rule) (earlier entries : List ℕ) (f : FeatureValue) → IsSoundAfter rules earlier entries → concludes rules earlier f ≡ true → concludes rules entries f ≡ true → ⊥
not_again rules earlier [] f sound before again = true≢false (sym again)
not_again rules earlier (n ∷ ns) f sound before again =
    let r = sound.0 in
    ⊎_elim (λ e. true≢false (sym (subst (λ g. concludes rules earlier g ≡ true) ((features_decide f r.conclusion).0 e) before) ∙ sound.2.new)) (λ h. not_again rules (earlier ++ n ∷ []) ns f sound.3 (concludes-append rules earlier (n ∷ []) f ∙ or_left _ _ before) h) (or_cases (feature_eq f r.conclusion) (concludes rules ns f) (sym (concludes-cons rules n ns r sound.1 f) ∙ again))

-- a list that ends in a feature concludes it
pub ends_in-concludes : (rules : List Rule) (goal : FeatureValue) (entries : List ℕ) → EndsIn rules goal entries → concludes rules entries goal ≡ true
ends_in-concludes rules goal [] ends = absurd ends
ends_in-concludes rules goal (n ∷ []) ends =
    ap (λ o. concluded_set (cons_option o []) goal) ends ∙ or_left _ _ (same_feature goal)
ends_in-concludes rules goal (n ∷ m ∷ ns) ends =
    concludes-append rules (n ∷ []) (m ∷ ns) goal ∙ or_right _ _ (ends_in-concludes rules goal (m ∷ ns) ends)

-- what is concluded stays so with one entry more
pub within_push : (rules : List Rule) (kept earlier : List ℕ) (n : ℕ) → IsWithin (concludes rules kept) (concludes rules earlier) → IsWithin (concludes rules kept) (concludes rules (earlier ++ n ∷ []))
within_push rules kept earlier n within f h = concludes-append rules earlier (n ∷ []) f ∙ or_left _ _ (within f h)

pub within_both : (rules : List Rule) (kept earlier : List ℕ) (m n : ℕ) → m ≡ n → IsWithin (concludes rules kept) (concludes rules earlier) → IsWithin (concludes rules (kept ++ m ∷ [])) (concludes rules (earlier ++ n ∷ []))
within_both rules kept earlier m n e within f h =
    ⊎_elim (λ old. within_push rules kept earlier n within f old) (λ new. concludes-append rules earlier (n ∷ []) f ∙ or_right _ _ (subst (λ k. concludes rules (k ∷ []) f ≡ true) e new)) (or_cases _ _ (sym (concludes-append rules kept (m ∷ []) f) ∙ h))
