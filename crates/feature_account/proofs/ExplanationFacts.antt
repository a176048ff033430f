-- What entries use, read from the end; and what is to be said of an explanation.
use Rattle.std.proofs.Common.{◌≡◌, ◌≢◌, ℕ, zero, suc, ◌+◌, ◌⊎◌, ⊎_elim, inl, inr, Bool, true, false, ◌||◌, List, [], ◌∷◌, ◌++◌, Option, Some, None, Result, Ok, Err, IfOk, ◌↔◌, refl, sym, ◌∙◌, ap, subst, slice_get, true≢false, zero-add, add-one, ◌<◌, length, drop, drop-cons, length-drop, get_or, arith}
use Rattle.std.specs.Option.{option_map, option_map_or, MatchOption}
use Rattle.std.proofs.Math.Seq.{drop-length}
use Rattle.std.proofs.lemmas.Option.{slice_get_within, slice_get-get_or}
use Rattle.workspace_record.specs.Features.{FeatureValue}
use Rattle.feature_account.specs.Accounts.{IsFault, IsSound}
use Rattle.feature_account_rules.specs.Closed.{FeatureSet, is_premise}
use Rattle.feature_account.specs.Explanations.{EndsIn, needs, is_used, EachIsUsed, IsFirstUnused, IsExplanation, IsExplanationVerdict}
use Rattle.feature_account_rules.specs.declared.rule.Rule.{Rule}
use Rattle.feature_account.specs.declared.verdict.Verdict.{Verdict}
use Rattle.feature_account.specs.declared.verdict.Verdict.TheVariants.{Accepted, UnknownRule, RepeatedConclusion, MissingPremise, NotClosed, NotGoal, Unused}
use Rattle.feature_account.proofs.AccountFacts.{sound_has_no_fault, stands_at}

-- what entries need where there is one more in front
pub needs-cons : (rules : List Rule) (n : ℕ) (later : List ℕ) (r : Rule) (f : FeatureValue) → slice_get rules n ≡ Some r → needs rules (n ∷ later) f ≡ (is_premise r.premises f || needs rules later f)
needs-cons rules n later r f known = ap (λ o. option_map_or (λ (q : Rule). is_premise q.premises f) o false || needs rules later f) known

pub is_used-known : (rules : List Rule) (n : ℕ) (later : List ℕ) (r : Rule) → slice_get rules n ≡ Some r → is_used rules n later ≡ needs rules later r.conclusion
is_used-known rules n later r known = ap (λ o. option_map_or (λ (q : Rule). needs rules later q.conclusion) o false) known

-- what a list ends in, by its last entry
EndsIn-last : (rules : List Rule) (goal : FeatureValue) (front : List ℕ) (n : ℕ) → EndsIn rules goal (front ++ n ∷ []) ↔ (option_map (λ (r : Rule). r.conclusion) (slice_get rules n) ≡ Some goal)
EndsIn-last rules goal [] n = (λ h. h, λ h. h)
EndsIn-last rules goal (m ∷ []) n = (λ h. h, λ h. h)
EndsIn-last rules goal (m ∷ k ∷ ks) n = EndsIn-last rules goal (k ∷ ks) n

-- no rule has the number of the last entry
pub ends_unknown : (rules : List Rule) (goal : FeatureValue) (entries front : List ℕ) (n : ℕ) → entries ≡ front ++ n ∷ [] → slice_get rules n ≡ None → EndsIn rules goal entries → ⊥
ends_unknown rules goal entries front n e unknown ends =
    let h = (EndsIn-last rules goal front n).0 (subst (EndsIn rules goal) e ends) in
    let o : None ≡ Some goal = sym (ap (option_map (λ (r : Rule). r.conclusion)) unknown) ∙ h in
    cc

-- the last entry is this rule's
pub ends_known : (rules : List Rule) (goal : FeatureValue) (entries front : List ℕ) (n : ℕ) (r : Rule) → entries ≡ front ++ n ∷ [] → slice_get rules n ≡ Some r → EndsIn rules goal entries ↔ (r.conclusion ≡ goal)
ends_known rules goal entries front n r e known =
    (λ ends. let h = (EndsIn-last rules goal front n).0 (subst (EndsIn rules goal) e ends) in let o : Some r.conclusion ≡ Some goal = sym (ap (option_map (λ (q : Rule). q.conclusion)) known) ∙ h in cc, λ same. subst (EndsIn rules goal) (sym e) ((EndsIn-last rules goal front n).1 (ap (option_map (λ (q : Rule). q.conclusion)) known ∙ ap Some same)))

-- the later entries were read, from a place on: what they need, and the first of them that is not used
pub record UsedFrom (rules : List Rule) (later : List ℕ) (place : ℕ) (needed : FeatureSet) (unused : Option ℕ) : Type 0 where
  pub needed_is : (f : FeatureValue) → needed f ≡ needs rules later f
  pub first : MatchOption unused (EachIsUsed rules later) (λ p. (q : ℕ) × (p ≡ place + q) × IsFirstUnused rules later q)

-- no entry was read
pub nothing_read : (rules : List Rule) (place : ℕ) (needed : FeatureSet) → ((f : FeatureValue) → needed f ≡ false) → UsedFrom rules [] place needed None
nothing_read rules place needed none = record { needed_is = none; first = tt }

EachIsUsed-cons : (rules : List Rule) (n : ℕ) (later : List ℕ) → (later ≡ []) ⊎ (is_used rules n later ≡ true) → EachIsUsed rules later → EachIsUsed rules (n ∷ later)
EachIsUsed-cons rules n [] used each = tt
EachIsUsed-cons rules n (m ∷ later) used each = ⊎_elim (λ e. cc) (λ h. (h, each)) used

IsFirstUnused-cons : (rules : List Rule) (n : ℕ) (later : List ℕ) (q : ℕ) → (later ≡ []) ⊎ (is_used rules n later ≡ true) → IsFirstUnused rules later q → IsFirstUnused rules (n ∷ later) (suc q)
IsFirstUnused-cons rules n [] q used first = absurd first
IsFirstUnused-cons rules n (m ∷ later) q used first = ⊎_elim (λ e. cc) (λ h. (h, first)) used

IsFirstUnused-here : (rules : List Rule) (n : ℕ) (later : List ℕ) → later ≢ [] → is_used rules n later ≡ false → IsFirstUnused rules (n ∷ later) 0
IsFirstUnused-here rules n [] some unused = absurd (some refl)
IsFirstUnused-here rules n (m ∷ later) some unused = unused

first-cons : (rules : List Rule) (n : ℕ) (later : List ℕ) (place : ℕ) (unused : Option ℕ) → (later ≡ []) ⊎ (is_used rules n later ≡ true) → MatchOption unused (EachIsUsed rules later) (λ p. (q : ℕ) × (p ≡ place + 1 + q) × IsFirstUnused rules later q) → MatchOption unused (EachIsUsed rules (n ∷ later)) (λ p. (q : ℕ) × (p ≡ place + q) × IsFirstUnused rules (n ∷ later) q)
first-cons rules n later place None used each = EachIsUsed-cons rules n later used each
first-cons rules n later place (Some p) used first =
    (suc first.0, omega (arith, first.1), IsFirstUnused-cons rules n later first.0 used first.2)

module _ (rules : List Rule) (n : ℕ) (later : List ℕ) (place : ℕ) (needed more : FeatureSet) (unused : Option ℕ) (r : Rule) (known : slice_get rules n ≡ Some r) (from : UsedFrom rules later (place + 1) needed unused) (grown : (f : FeatureValue) → more f ≡ (is_premise r.premises f || needed f)) where
  needed_more : (f : FeatureValue) → more f ≡ needs rules (n ∷ later) f
  needed_more f = grown f ∙ ap (λ b. is_premise r.premises f || b) (from.needed_is f) ∙ sym (needs-cons rules n later r f known)

  used_as : (b : Bool) → needed r.conclusion ≡ b → is_used rules n later ≡ b
  used_as b h = is_used-known rules n later r known ∙ sym (from.needed_is r.conclusion) ∙ h

  -- the entry in front is the last, or is used
  pub used_before : (later ≡ []) ⊎ (needed r.conclusion ≡ true) → UsedFrom rules (n ∷ later) place more unused
  used_before used = record {
    needed_is = needed_more;
    first = first-cons rules n later place unused (⊎_elim (λ e. inl e) (λ h. inr (used_as true h)) used) from.first;
  }

  -- the entry in front is not used
  pub unused_before : later ≢ [] → needed r.conclusion ≡ false → UsedFrom rules (n ∷ later) place more (Some place)
  unused_before some h = record {
    needed_is = needed_more;
    first = (0, omega arith, IsFirstUnused-here rules n later some (used_as false h));
  }

-- a step over the entry at a place
module _ (rules : List Rule) (entries : List ℕ) (p place : ℕ) (needed more : FeatureSet) (unused : Option ℕ) (r : Rule) (known : slice_get rules (get_or entries p 0) ≡ Some r) (next : place ≡ p + 1) (within : p < length entries) (from : UsedFrom rules (drop place entries) place needed unused) (grown : (f : FeatureValue) → more f ≡ (is_premise r.premises f || needed f)) where
  at_place : drop p entries ≡ get_or entries p 0 ∷ drop place entries
  at_place = drop-cons entries p 0 within ∙ ap (λ k. get_or entries p 0 ∷ drop k entries) (sym (next ∙ add-one p))

  from_next : UsedFrom rules (drop place entries) (p + 1) needed unused
  from_next = subst (λ k. UsedFrom rules (drop place entries) k needed unused) next from

  pub used_step : (place ≡ length entries) ⊎ (needed r.conclusion ≡ true) → UsedFrom rules (drop p entries) p more unused
  used_step used =
      let last_or : (drop place entries ≡ []) ⊎ (needed r.conclusion ≡ true) = ⊎_elim (λ e. inl (ap (λ k. drop k entries) e ∙ drop-length entries)) (λ h. inr h) used in
      subst (λ xs. UsedFrom rules xs p more unused) (sym at_place) (used_before rules (get_or entries p 0) (drop place entries) p needed more unused r known from_next grown last_or)

  pub unused_step : place < length entries → needed r.conclusion ≡ false → UsedFrom rules (drop p entries) p more (Some p)
  unused_step some h =
      let followed : drop place entries ≢ [] = λ e. let none = ap length e in let long = length-drop place entries in omega arith in
      subst (λ xs. UsedFrom rules xs p more (Some p)) (sym at_place) (unused_before rules (get_or entries p 0) (drop place entries) p needed more unused r known from_next grown followed h)

-- the number of an entry that may stand is a rule's
pub number_known : (rules : List Rule) (entries : List ℕ) (p : ℕ) → IsSound rules entries → p < length entries → get_or entries p 0 < length rules
number_known rules entries p sound within =
    let at = stands_at rules [] entries p (get_or entries p 0) sound (slice_get-get_or entries p 0 within) in
    slice_get_within rules (get_or entries p 0) at.0 at.1

-- not each entry is used where there is a first that is not
no_first_unused : (rules : List Rule) (entries : List ℕ) (place : ℕ) → EachIsUsed rules entries → IsFirstUnused rules entries place → ⊥
no_first_unused rules [] place each first = first
no_first_unused rules (n ∷ []) place each first = first
no_first_unused rules (n ∷ m ∷ ns) zero each first = true≢false (sym each.0 ∙ first)
no_first_unused rules (n ∷ m ∷ ns) (suc place) each first = no_first_unused rules (m ∷ ns) place each.1 first.1

-- a fault is a verdict on an explanation
pub explanation_verdict_from_fault : (rules : List Rule) (goal : FeatureValue) (entries : List ℕ) (v : Verdict) → IsFault rules entries v → IsExplanationVerdict rules goal entries v
explanation_verdict_from_fault rules goal entries Accepted h = absurd h
explanation_verdict_from_fault rules goal entries (UnknownRule place) h = h
explanation_verdict_from_fault rules goal entries (RepeatedConclusion place) h = h
explanation_verdict_from_fault rules goal entries (MissingPremise place) h = h
explanation_verdict_from_fault rules goal entries (NotClosed number) h = h
explanation_verdict_from_fault rules goal entries NotGoal h = absurd h
explanation_verdict_from_fault rules goal entries (Unused place) h = absurd h

-- an explanation gets no other verdict
accepted_from_explanation : (rules : List Rule) (goal : FeatureValue) (entries : List ℕ) (v : Verdict) → IsExplanationVerdict rules goal entries v → IsExplanation rules goal entries → v ≡ Accepted
accepted_from_explanation rules goal entries Accepted h is = refl
accepted_from_explanation rules goal entries (UnknownRule place) h is = absurd (sound_has_no_fault rules entries (UnknownRule place) is.sound h)
accepted_from_explanation rules goal entries (RepeatedConclusion place) h is = absurd (sound_has_no_fault rules entries (RepeatedConclusion place) is.sound h)
accepted_from_explanation rules goal entries (MissingPremise place) h is = absurd (sound_has_no_fault rules entries (MissingPremise place) is.sound h)
accepted_from_explanation rules goal entries (NotClosed number) h is = absurd h
accepted_from_explanation rules goal entries NotGoal h is = absurd (h.1 is.reached)
accepted_from_explanation rules goal entries (Unused place) h is = absurd (no_first_unused rules entries place is.used h.2)

pub explanation_accepted_if_ok : {E : Type 0} (rules : List Rule) (goal : FeatureValue) (entries : List ℕ) (r : Result Verdict E) → IfOk r (IsExplanationVerdict rules goal entries) → IfOk r (λ v. (v ≡ Accepted) ↔ IsExplanation rules goal entries)
explanation_accepted_if_ok rules goal entries (Ok v) h = (λ e. subst (IsExplanationVerdict rules goal entries) e h, accepted_from_explanation rules goal entries v h)
explanation_accepted_if_ok rules goal entries (Err e) h = h

-- all entries were read
pub used_at_end : (rules : List Rule) (entries : List ℕ) (needed : FeatureSet) (unused : Option ℕ) → UsedFrom rules entries 0 needed unused → MatchOption unused (EachIsUsed rules entries) (IsFirstUnused rules entries)
used_at_end rules entries needed None from = from.first
used_at_end rules entries needed (Some p) from =
    let (q, e, first) = from.first in
    subst (IsFirstUnused rules entries) (sym (e ∙ zero-add q)) first
