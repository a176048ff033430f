-- Why no entry of an explanation can be dropped.
use Rattle.std.proofs.Common.{◌≡◌, ℕ, ⊎_elim, true, false, List, [], ◌∷◌, ◌++◌, Some, append-nil, append_assoc, refl, sym, ◌∙◌, ap, subst, true≢false}
use Rattle.std.specs.Option.{option_map}
use Rattle.std.proofs.lemmas.Bool.{and_parts, or_cases, or_left, or_right}
use Rattle.workspace_record.specs.Features.{FeatureValue, feature_eq, features_decide}
use Rattle.feature_account.specs.Accounts.{concludes, IsSoundAfter}
use Rattle.feature_account_rules.specs.Closed.{FeatureSet, has_premises, is_premise}
use Rattle.feature_account.specs.Explanations.{EndsIn, needs, EachIsUsed, IsExplanation, IsSublist}
use Rattle.feature_account_rules.specs.declared.rule.Premises.{Premises}
use Rattle.feature_account_rules.specs.declared.rule.Premises.TheVariants as premises
use Rattle.feature_account_rules.specs.declared.rule.Rule.{Rule}
use Rattle.feature_account.proofs.ClosedSets.{IsWithin}
use Rattle.feature_account.proofs.Conclusions.{same_feature, concludes-append, concludes-cons, ends_in-concludes, not_again, within_push, within_both}
use Rattle.feature_account.proofs.ExplanationFacts.{needs-cons, is_used-known}

-- a premise is in each set that has all of them
pub premise_held : (s : FeatureSet) (p : Premises) (f : FeatureValue) → has_premises s p ≡ true → is_premise p f ≡ true → s f ≡ true
premise_held s premises.None f held is = absurd (true≢false (sym is))
premise_held s (premises.One g) f held is = subst (λ h. s h ≡ true) (sym ((features_decide f g).0 is)) held
premise_held s (premises.Two g h) f held is =
    let both = and_parts (s g) (s h) held in
    ⊎_elim (λ e. subst (λ h. s h ≡ true) (sym ((features_decide f g).0 e)) both.0) (λ e. subst (λ h. s h ≡ true) (sym ((features_decide f h).0 e)) both.1) (or_cases (feature_eq f g) (feature_eq f h) is)

-- what entries that may all stand need, was concluded before them or is by them
pub needed_is_concluded : (rules : List Rule) (earlier entries : List ℕ) (f : FeatureValue) → IsSoundAfter rules earlier entries → needs rules entries f ≡ true → concludes rules (earlier ++ entries) f ≡ true
needed_is_concluded rules earlier [] f sound needed = absurd (true≢false (sym needed))
needed_is_concluded rules earlier (n ∷ ns) f sound needed =
    let r = sound.0 in
    ⊎_elim (λ is. concludes-append rules earlier (n ∷ ns) f ∙ or_left _ _ (premise_held (concludes rules earlier) r.premises f sound.2.supported is)) (λ h. subst (λ xs. concludes rules xs f ≡ true) (append_assoc earlier (n ∷ []) ns) (needed_is_concluded rules (earlier ++ n ∷ []) ns f sound.3 h)) (or_cases (is_premise r.premises f) (needs rules ns f) (sym (needs-cons rules n ns r f sound.1) ∙ needed))

-- an entry that may stand after the earlier ones cannot be left out where all later ones are kept, and less before it
not_left_out : (rules : List Rule) (goal : FeatureValue) (earlier kept : List ℕ) (n : ℕ) (later : List ℕ) → IsSoundAfter rules earlier (n ∷ later) → EndsIn rules goal (n ∷ later) → EachIsUsed rules (n ∷ later) → IsWithin (concludes rules kept) (concludes rules earlier) → IsSoundAfter rules kept later → concludes rules (kept ++ later) goal ≡ true → ⊥
not_left_out rules goal earlier kept n [] sound ends used within kept_sound reached =
    let r = sound.0 in
    let here : concludes rules kept goal ≡ true = subst (λ xs. concludes rules xs goal ≡ true) (append-nil kept) reached in
    let goal_is : Some r.conclusion ≡ Some goal = sym (ap (option_map (λ (q : Rule). q.conclusion)) sound.1) ∙ ends in
    let conclusion_is : r.conclusion ≡ goal = cc in
    true≢false (sym (within goal here) ∙ subst (λ g. concludes rules earlier g ≡ false) conclusion_is sound.2.new)
not_left_out rules goal earlier kept n (m ∷ ms) sound ends used within kept_sound reached =
    let r = sound.0 in
    let c = r.conclusion in
    let later = m ∷ ms in
    let needed = sym (is_used-known rules n later r sound.1) ∙ used.0 in
    let somewhere = needed_is_concluded rules kept later c kept_sound needed in
    let here = concludes-append rules earlier (n ∷ []) c ∙ or_right _ _ (concludes-cons rules n [] r sound.1 c ∙ or_left _ _ (same_feature c)) in
    ⊎_elim (λ h. true≢false (sym (within c h) ∙ sound.2.new)) (λ h. not_again rules (earlier ++ n ∷ []) later c sound.3 here h) (or_cases _ _ (sym (concludes-append rules kept later c) ∙ somewhere))

-- the tail of a list each of which is used
used_tail : (rules : List Rule) (n : ℕ) (later : List ℕ) → EachIsUsed rules (n ∷ later) → EachIsUsed rules later
used_tail rules n [] used = tt
used_tail rules n (m ∷ ms) used = used.1

-- there is no entry, or the last concludes the feature
abbrev EndsIfAny : List Rule → FeatureValue → List ℕ → Type 0
EndsIfAny rules goal [] = Unit {0}
EndsIfAny rules goal (n ∷ ns) = EndsIn rules goal (n ∷ ns)

ends_tail : (rules : List Rule) (goal : FeatureValue) (n : ℕ) (later : List ℕ) → EndsIn rules goal (n ∷ later) → EndsIfAny rules goal later
ends_tail rules goal n [] ends = tt
ends_tail rules goal n (m ∷ ms) ends = ends

-- where entries are left out of the later ones, after less before them, none of them is
none_left_out : (rules : List Rule) (goal : FeatureValue) (earlier kept entries fewer : List ℕ) → IsSoundAfter rules earlier entries → EndsIfAny rules goal entries → EachIsUsed rules entries → IsWithin (concludes rules kept) (concludes rules earlier) → IsSublist fewer entries → IsSoundAfter rules kept fewer → concludes rules (kept ++ fewer) goal ≡ true → fewer ≡ entries
none_left_out rules goal earlier kept [] [] sound ends used within sub kept_sound reached = refl
none_left_out rules goal earlier kept [] (m ∷ ms) sound ends used within sub kept_sound reached = absurd sub
none_left_out rules goal earlier kept (n ∷ ns) [] sound ends used within sub kept_sound reached =
    let all = none_left_out rules goal (earlier ++ n ∷ []) kept ns [] sound.3 (ends_tail rules goal n ns ends) (used_tail rules n ns used) (within_push rules kept earlier n within) tt kept_sound reached in
    absurd (not_left_out rules goal earlier kept n ns sound ends used within (subst (IsSoundAfter rules kept) all kept_sound) (subst (λ xs. concludes rules (kept ++ xs) goal ≡ true) all reached))
none_left_out rules goal earlier kept (n ∷ ns) (m ∷ ms) sound ends used within sub kept_sound reached =
    let later_ends = ends_tail rules goal n ns ends in
    let later_used = used_tail rules n ns used in
    ⊎_elim (λ both. let all = none_left_out rules goal (earlier ++ n ∷ []) (kept ++ m ∷ []) ns ms sound.3 later_ends later_used (within_both rules kept earlier m n both.0 within) both.1 kept_sound.3 (subst (λ xs. concludes rules xs goal ≡ true) (sym (append_assoc kept (m ∷ []) ms)) reached) in ap (λ k. k ∷ ms) both.0 ∙ ap (λ xs. n ∷ xs) all) (λ skipped. let all = none_left_out rules goal (earlier ++ n ∷ []) kept ns (m ∷ ms) sound.3 later_ends later_used (within_push rules kept earlier n within) skipped kept_sound reached in absurd (not_left_out rules goal earlier kept n ns sound ends used within (subst (IsSoundAfter rules kept) all kept_sound) (subst (λ xs. concludes rules (kept ++ xs) goal ≡ true) all reached))) sub

ends_if_any : (rules : List Rule) (goal : FeatureValue) (entries : List ℕ) → EndsIn rules goal entries → EndsIfAny rules goal entries
ends_if_any rules goal [] ends = tt
ends_if_any rules goal (n ∷ ns) ends = ends

-- an explanation made of another by dropping entries has dropped none
pub irreducible : (rules : List Rule) (goal : FeatureValue) (fewer entries : List ℕ) → IsExplanation rules goal entries → IsSublist fewer entries → IsExplanation rules goal fewer → fewer ≡ entries
irreducible rules goal fewer entries is sub fewer_is =
    none_left_out rules goal [] [] entries fewer is.sound (ends_if_any rules goal entries is.reached) is.used (λ f h. h) sub fewer_is.sound (ends_in-concludes rules goal fewer fewer_is.reached)
