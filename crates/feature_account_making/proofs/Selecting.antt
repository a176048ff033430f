-- Taking the entries of an account that a goal rests on, from the end.
use Rattle.std.proofs.Common.{◌≡◌, ◌≢◌, ℕ, ◌+◌, ◌<◌, ◌⊎◌, ⊎_elim, inl, inr, Bool, true, false, ◌||◌, List, [], ◌∷◌, ◌++◌, Some, length, take, drop, drop-cons, get_or, add-one, append-nil, append_assoc, refl, sym, ◌∙◌, ap, subst, slice_get, true≢false, unwrap_or}
use Rattle.std.specs.Option.{option_map}
use Rattle.std.proofs.lemmas.Bool.{and_parts, and_from, or_cases, or_left, or_right, or_from, or_parts}
use Rattle.std.proofs.lemmas.List.{take_more, take-append-drop}
use Rattle.workspace_record.specs.Features.{FeatureValue, feature_eq, features_decide}
use Rattle.feature_account.specs.Accounts.{concludes, MayStand, IsSoundAfter, IsSound}
use Rattle.feature_account_rules.specs.Closed.{FeatureSet, has_premises, is_premise}
use Rattle.feature_account.specs.Explanations.{EndsIn, needs, EachIsUsed, IsExplanation, IsSublist}
use Rattle.feature_account_rules.specs.declared.rule.Premises.{Premises}
use Rattle.feature_account_rules.specs.declared.rule.Premises.TheVariants as premises
use Rattle.feature_account_rules.specs.declared.rule.Rule.{Rule}
use Rattle.feature_account.proofs.ClosedSets.{IsWithin}
use Rattle.feature_account.proofs.ExplanationFacts.{needs-cons, is_used-known}
use Rattle.feature_account.proofs.Conclusions.{same_feature, concludes-append, concludes-cons, ends_in-concludes, not_again, within_push, within_both}

false_from_not : (b : Bool) → (b ≡ true → ⊥) → b ≡ false
false_from_not true refuted = absurd (refuted refl)
false_from_not false refuted = refl

-- the entries after the earlier ones may stand after them
sound_tail : (rules : List Rule) (earlier front back : List ℕ) → IsSoundAfter rules earlier (front ++ back) → IsSoundAfter rules (earlier ++ front) back
sound_tail rules earlier [] back sound = subst (λ xs. IsSoundAfter rules xs back) (sym (append-nil earlier)) sound
sound_tail rules earlier (n ∷ front) back sound = subst (λ xs. IsSoundAfter rules xs back) (append_assoc earlier (n ∷ []) front) (sound_tail rules (earlier ++ n ∷ []) front back sound.3)

-- a list made by dropping entries concludes no more
pub sublist_within : (rules : List Rule) (fewer entries : List ℕ) → IsSublist fewer entries → IsWithin (concludes rules fewer) (concludes rules entries)
sublist_within rules [] entries sub f h = absurd (true≢false (sym h))
sublist_within rules (m ∷ ms) [] sub f h = absurd sub
sublist_within rules (m ∷ ms) (n ∷ ns) sub f h =
    concludes-append rules (n ∷ []) ns f ∙ ⊎_elim (λ both. ⊎_elim (λ first. or_left _ _ (subst (λ k. concludes rules (k ∷ []) f ≡ true) both.0 first)) (λ later. or_right (concludes rules (n ∷ []) f) _ (sublist_within rules ms ns both.1 f later)) (or_cases _ _ (sym (concludes-append rules (m ∷ []) ms f) ∙ h))) (λ skipped. or_right (concludes rules (n ∷ []) f) _ (sublist_within rules (m ∷ ms) ns skipped f h)) sub

sublist_skips : (fewer : List ℕ) (n : ℕ) (entries : List ℕ) → IsSublist fewer entries → IsSublist fewer (n ∷ entries)
sublist_skips [] n entries sub = tt
sublist_skips (m ∷ ms) n entries sub = inr sub

-- a set that has each premise that another has, has all of them where that one does
premises_too : (s t : FeatureSet) (p : Premises) → ((f : FeatureValue) → is_premise p f ≡ true → s f ≡ true → t f ≡ true) → has_premises s p ≡ true → has_premises t p ≡ true
premises_too s t premises.None each held = refl
premises_too s t (premises.One g) each held = each g (same_feature g) held
premises_too s t (premises.Two g h) each held =
    let both = and_parts (s g) (s h) held in
    and_from (t g) (t h) (each g (or_left _ _ (same_feature g)) both.0) (each h (or_right (feature_eq h g) _ (same_feature h)) both.1)

-- no later entry concludes the goal and none was taken, or those that were taken end in the goal
abbrev pub Reached : List Rule → FeatureValue → List ℕ → List ℕ → Type 0
Reached rules goal later [] = concludes rules later goal ≡ false
Reached rules goal later (n ∷ ns) = EndsIn rules goal (n ∷ ns)

-- of the later entries those were taken that the goal rests on; they may stand after any list that concludes no more than the front, but all that they need of it
pub record Selects (rules : List Rule) (goal : FeatureValue) (front later kept : List ℕ) (needed : FeatureSet) : Type 0 where
  pub needed_is : (f : FeatureValue) → needed f ≡ (feature_eq f goal || needs rules kept f)
  pub in_order : IsSublist kept later
  pub reached : Reached rules goal later kept
  pub used : EachIsUsed rules kept
  pub stands : (before : List ℕ) → IsWithin (concludes rules before) (concludes rules front) → ((f : FeatureValue) → needs rules kept f ≡ true → concludes rules front f ≡ true → concludes rules before f ≡ true) → IsSoundAfter rules before kept

Reached-skips : (rules : List Rule) (goal : FeatureValue) (later : List ℕ) (n : ℕ) (r : Rule) (kept : List ℕ) → slice_get rules n ≡ Some r → feature_eq goal r.conclusion ≡ false → Reached rules goal later kept → Reached rules goal (n ∷ later) kept
Reached-skips rules goal later n r [] known other reached = concludes-cons rules n later r known goal ∙ or_from _ _ other reached
Reached-skips rules goal later n r (m ∷ ms) known other reached = reached

Reached-keeps : (rules : List Rule) (goal : FeatureValue) (later : List ℕ) (n : ℕ) (r : Rule) (kept : List ℕ) → slice_get rules n ≡ Some r → (feature_eq r.conclusion goal ≡ true) ⊎ (needs rules kept r.conclusion ≡ true) → Reached rules goal later kept → EndsIn rules goal (n ∷ kept)
Reached-keeps rules goal later n r [] known wanted reached =
    ⊎_elim (λ e. ap (option_map (λ (q : Rule). q.conclusion)) known ∙ ap Some ((features_decide r.conclusion goal).0 e)) (λ none. absurd (true≢false (sym none))) wanted
Reached-keeps rules goal later n r (m ∷ ms) known wanted reached = reached

EachIsUsed-keeps : (rules : List Rule) (goal : FeatureValue) (later : List ℕ) (n : ℕ) (r : Rule) (kept : List ℕ) → slice_get rules n ≡ Some r → (feature_eq r.conclusion goal ≡ true) ⊎ (needs rules kept r.conclusion ≡ true) → IsSublist kept later → Reached rules goal later kept → (concludes rules later r.conclusion ≡ true → ⊥) → EachIsUsed rules kept → EachIsUsed rules (n ∷ kept)
EachIsUsed-keeps rules goal later n r [] known wanted in_order reached new used = tt
EachIsUsed-keeps rules goal later n r (m ∷ ms) known wanted in_order reached new used =
    let again : r.conclusion ≡ goal → concludes rules later r.conclusion ≡ true = λ e. subst (λ g. concludes rules later g ≡ true) (sym e) (sublist_within rules (m ∷ ms) later in_order goal (ends_in-concludes rules goal (m ∷ ms) reached)) in
    (is_used-known rules n (m ∷ ms) r known ∙ ⊎_elim (λ e. absurd (new (again ((features_decide r.conclusion goal).0 e)))) (λ need. need) wanted, used)

last_first : (a b c : Bool) → (a || (b || c)) ≡ (b || (a || c))
last_first true true c = refl
last_first true false c = refl
last_first false true c = refl
last_first false false c = refl

-- one entry more of an account, before the later ones
module _ (rules : List Rule) (goal : FeatureValue) (front : List ℕ) (n : ℕ) (later kept : List ℕ) (needed : FeatureSet) (r : Rule) (known : slice_get rules n ≡ Some r) (sound : IsSoundAfter rules front (n ∷ later)) (from : Selects rules goal (front ++ n ∷ []) later kept needed) where
  may_stand : MayStand rules front r
  may_stand = subst (λ q. MayStand rules front q) (ap (λ o. unwrap_or o r) (sym sound.1 ∙ known)) sound.2

  -- what was concluded up to the entry was before it, or is what the entry concludes
  up_to : (f : FeatureValue) → concludes rules (front ++ n ∷ []) f ≡ true → (concludes rules front f ≡ true) ⊎ (concludes rules (n ∷ []) f ≡ true)
  up_to f h = or_cases _ _ (sym (concludes-append rules front (n ∷ []) f) ∙ h)

  is_conclusion : (f : FeatureValue) → concludes rules (n ∷ []) f ≡ true → f ≡ r.conclusion
  is_conclusion f h =
      ⊎_elim (λ e. (features_decide f r.conclusion).0 e) (λ none. absurd (true≢false (sym none))) (or_cases (feature_eq f r.conclusion) false (sym (concludes-cons rules n [] r known f) ∙ h))

  concluded_here : concludes rules (front ++ n ∷ []) r.conclusion ≡ true
  concluded_here = concludes-append rules front (n ∷ []) r.conclusion ∙ or_right _ _ (concludes-cons rules n [] r known r.conclusion ∙ or_left _ _ (same_feature r.conclusion))

  pub skips : needed r.conclusion ≡ false → Selects rules goal front (n ∷ later) kept needed
  skips h =
      let neither = or_parts (feature_eq r.conclusion goal) (needs rules kept r.conclusion) (sym (from.needed_is r.conclusion) ∙ h) in
      let other : feature_eq goal r.conclusion ≡ false = false_from_not _ (λ e. true≢false (sym ((features_decide r.conclusion goal).1 (sym ((features_decide goal r.conclusion).0 e))) ∙ neither.0)) in
      record {
        needed_is = from.needed_is;
        in_order = sublist_skips kept n later from.in_order;
        reached = Reached-skips rules goal later n r kept known other from.reached;
        used = from.used;
        stands = λ before within each. from.stands before (within_push rules before front n within) (λ f need at. ⊎_elim (λ old. each f need old) (λ new. absurd (true≢false (sym (subst (λ g. needs rules kept g ≡ true) (is_conclusion f new) need) ∙ neither.1))) (up_to f at));
      }

  pub keeps : (more : FeatureSet) → needed r.conclusion ≡ true → ((f : FeatureValue) → more f ≡ (is_premise r.premises f || needed f)) → Selects rules goal front (n ∷ later) (n ∷ kept) more
  keeps more h grown =
      let wanted = or_cases (feature_eq r.conclusion goal) (needs rules kept r.conclusion) (sym (from.needed_is r.conclusion) ∙ h) in
      let more_needed = λ (f : FeatureValue). needs-cons rules n kept r f known in
      record {
        needed_is = λ f. grown f ∙ ap (λ b. is_premise r.premises f || b) (from.needed_is f) ∙ last_first (is_premise r.premises f) (feature_eq f goal) (needs rules kept f) ∙ ap (λ b. feature_eq f goal || b) (sym (more_needed f));
        in_order = inl (refl, from.in_order);
        reached = Reached-keeps rules goal later n r kept known wanted from.reached;
        used = EachIsUsed-keeps rules goal later n r kept known wanted from.in_order from.reached (not_again rules (front ++ n ∷ []) later r.conclusion sound.3 concluded_here) from.used;
        stands = λ before within each. (r, known, record { new = false_from_not _ (λ e. true≢false (sym (within r.conclusion e) ∙ may_stand.new)); supported = premises_too (concludes rules front) (concludes rules before) r.premises (λ f is at. each f (more_needed f ∙ or_left _ _ is) at) may_stand.supported }, from.stands (before ++ n ∷ []) (within_both rules before front n n refl within) (λ f need at. concludes-append rules before (n ∷ []) f ∙ ⊎_elim (λ old. or_left _ _ (each f (more_needed f ∙ or_right _ _ need) old)) (λ new. or_right _ _ new) (up_to f at)));
      }

-- the step over the entry at a place
module _ (rules : List Rule) (goal : FeatureValue) (account : List ℕ) (p place : ℕ) (kept : List ℕ) (needed : FeatureSet) (r : Rule) (known : slice_get rules (get_or account p 0) ≡ Some r) (next : place ≡ p + 1) (inside : p < length account) (sound : IsSound rules account) (from : Selects rules goal (take place account) (drop place account) kept needed) where
  later_is : drop p account ≡ get_or account p 0 ∷ drop place account
  later_is = drop-cons account p 0 inside ∙ ap (λ k. get_or account p 0 ∷ drop k account) (sym (next ∙ add-one p))

  front_is : take place account ≡ take p account ++ get_or account p 0 ∷ []
  front_is = ap (λ k. take k account) next ∙ take_more account p 0 inside

  sound_here : IsSoundAfter rules (take p account) (get_or account p 0 ∷ drop place account)
  sound_here = sound_tail rules [] (take p account) (get_or account p 0 ∷ drop place account) (subst (IsSound rules) (sym (take-append-drop p account) ∙ ap (λ xs. take p account ++ xs) later_is) sound)

  from_here : Selects rules goal (take p account ++ get_or account p 0 ∷ []) (drop place account) kept needed
  from_here = subst (λ xs. Selects rules goal xs (drop place account) kept needed) front_is from

  pub skip_step : needed r.conclusion ≡ false → Selects rules goal (take p account) (drop p account) kept needed
  skip_step h =
      subst (λ xs. Selects rules goal (take p account) xs kept needed) (sym later_is) (skips rules goal (take p account) (get_or account p 0) (drop place account) kept needed r known sound_here from_here h)

  pub keep_step : (more : FeatureSet) → needed r.conclusion ≡ true → ((f : FeatureValue) → more f ≡ (is_premise r.premises f || needed f)) → Selects rules goal (take p account) (drop p account) (get_or account p 0 ∷ kept) more
  keep_step more h grown =
      subst (λ xs. Selects rules goal (take p account) xs (get_or account p 0 ∷ kept) more) (sym later_is) (keeps rules goal (take p account) (get_or account p 0) (drop place account) kept needed r known sound_here from_here more h grown)

-- nothing was taken of the account yet
pub selects_none : (rules : List Rule) (goal : FeatureValue) (account : List ℕ) (needed : FeatureSet) → ((f : FeatureValue) → needed f ≡ (feature_eq f goal || false)) → Selects rules goal account [] [] needed
selects_none rules goal account needed goal_alone = record {
  needed_is = goal_alone;
  in_order = tt;
  reached = refl;
  used = tt;
  stands = λ before within each. tt;
}

-- all entries were looked at
pub explains_at_end : (rules : List Rule) (goal : FeatureValue) (account kept : List ℕ) (needed : FeatureSet) → Selects rules goal [] account kept needed → kept ≢ [] → IsExplanation rules goal kept
explains_at_end rules goal account [] needed at some = absurd (some refl)
explains_at_end rules goal account (n ∷ ns) needed at some =
    record { sound = at.stands [] (λ f h. h) (λ f need h. h); reached = at.reached; used = at.used }

pub none_at_end : (rules : List Rule) (goal : FeatureValue) (account kept : List ℕ) (needed : FeatureSet) → Selects rules goal [] account kept needed → kept ≡ [] → concludes rules account goal ≡ false
none_at_end rules goal account [] needed at none = at.reached
none_at_end rules goal account (n ∷ ns) needed at none = absurd cc

-- the goal of what was taken is concluded
pub goal_concluded : (rules : List Rule) (goal : FeatureValue) (account kept : List ℕ) → IsSublist kept account → IsExplanation rules goal kept → concludes rules account goal ≡ true
goal_concluded rules goal account kept in_order is = sublist_within rules kept account in_order goal (ends_in-concludes rules goal kept is.reached)
