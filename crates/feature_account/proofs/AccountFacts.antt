-- An account, read entry by entry.
use Rattle.std.proofs.Common.{Bor, ◌≡◌, ℕ, zero, suc, ◌+◌, ◌<◌, ⊎_elim, true, false, ◌||◌, List, [], ◌∷◌, ◌++◌, Option, Some, None, length, take, get_or, append-nil, append_assoc, refl, sym, ◌∙◌, ap, subst, slice_get, Contains, true≢false, unwrap_or, Result, Ok, Err, IfOk, ◌↔◌}
use Rattle.std.specs.List.{list_any, cons_option}
use Rattle.std.specs.Option.{option_map}
use Rattle.std.proofs.lemmas.List.{take_more}
use Rattle.std.proofs.lemmas.List.Elements.{filter_map-append, Contains-push_cases}
use Rattle.std.proofs.lemmas.List.Folds.{list_any-append}
use Rattle.std.proofs.lemmas.Option.{slice_get_within, get_or_from_slice_get, slice_get-get_or}
use Rattle.indexmap.specs.IndexSet.{IndexSet}
use Rattle.list_facts.proofs.Tests.{and_not_parts, implied}
use Rattle.workspace_record.specs.Features.{FeatureValue, feature_eq}
use Rattle.feature_account_rules.specs.Closed.{FeatureSet, has_premises, is_open, IsClosed}
use Rattle.feature_account.specs.Accounts.{conclusions, concluded_set, concludes, MayStand, IsSoundAfter, IsSound, IsFirstFault, IsUnknown, IsRepeated, IsUnsupported, IsFirstOpen, IsFault, IsVerdict, IsValidAccount}
use Rattle.feature_account_rules.specs.Found.{found_set}
use Rattle.feature_account_rules.specs.declared.rule.Rule.{Rule}
use Rattle.feature_account.specs.declared.verdict.Verdict.{Verdict}
use Rattle.feature_account.specs.declared.verdict.Verdict.TheVariants.{Accepted, UnknownRule, RepeatedConclusion, MissingPremise, NotClosed, NotGoal, Unused}

-- what stands at a number is in the list
pub Contains-slice_get : {X : Type 0} (xs : List X) (n : ℕ) (x : X) → slice_get xs n ≡ Some x → Contains xs x
Contains-slice_get xs n x e = (n, slice_get_within xs n x e, get_or_from_slice_get xs n x x e)

-- the first entries were read: the set of what they conclude, and that each may stand
pub record SoFar (rules : List Rule) (account : List ℕ) (place : ℕ) (found : FeatureSet) : Type 0 where
  pub found_is : found ≡ concludes rules (take place account)
  pub sound : IsSound rules (take place account)

-- nothing was read
pub begins : {S : Type 0} (rules : List Rule) (account : List ℕ) (found : IndexSet (Bor FeatureValue) S) → found.keys ≡ [] → SoFar rules account 0 (found_set found)
begins rules account found empty = record {
  found_is = λ i f. list_any (λ (k : Bor FeatureValue). feature_eq f k.now) (empty i);
  sound = tt;
}

pub conclusions-push : (rules : List Rule) (account : List ℕ) (n : ℕ) (r : Rule) → slice_get rules n ≡ Some r → conclusions rules (account ++ n ∷ []) ≡ conclusions rules account ++ r.conclusion ∷ []
conclusions-push rules account n r e =
    filter_map-append _ account (n ∷ []) ∙ ap (λ o. conclusions rules account ++ cons_option (option_map (λ (q : Rule). q.conclusion) o) []) e

pub IsSoundAfter-push : (rules : List Rule) (earlier account : List ℕ) (n : ℕ) (r : Rule) → IsSoundAfter rules earlier account → slice_get rules n ≡ Some r → MayStand rules (earlier ++ account) r → IsSoundAfter rules earlier (account ++ n ∷ [])
IsSoundAfter-push rules earlier [] n r sound e may = (r, e, subst (λ xs. MayStand rules xs r) (append-nil earlier) may, tt)
IsSoundAfter-push rules earlier (m ∷ account) n r sound e may =
    (sound.0, sound.1, sound.2, IsSoundAfter-push rules (earlier ++ m ∷ []) account n r sound.3 e (subst (λ xs. MayStand rules xs r) (sym (append_assoc earlier (m ∷ []) account)) may))

-- what an account with one entry more concludes
pub concludes-push : (rules : List Rule) (account : List ℕ) (n : ℕ) (r : Rule) → slice_get rules n ≡ Some r → (f : FeatureValue) → concludes rules (account ++ n ∷ []) f ≡ (concludes rules account f || (feature_eq f r.conclusion || false))
concludes-push rules account n r known f =
    ap (λ xs. concluded_set xs f) (conclusions-push rules account n r known) ∙ list_any-append (feature_eq f) (conclusions rules account) (r.conclusion ∷ [])

module _ (rules : List Rule) (account : List ℕ) (place n : ℕ) (found : FeatureSet) (so_far : SoFar rules account place found) (stands : slice_get account place ≡ Some n) where
  pub unknown_at : slice_get rules n ≡ None → IsFault rules account (UnknownRule place)
  unknown_at e = record { before = so_far.sound; entry = n; stands = stands; fault = e }

  module _ (r : Rule) (known : slice_get rules n ≡ Some r) where
    pub repeated_at : found r.conclusion ≡ true → IsFault rules account (RepeatedConclusion place)
    repeated_at h =
        record { before = so_far.sound; entry = n; stands = stands; fault = subst (IsRepeated rules (take place account)) (sym known) (subst (λ xs. xs r.conclusion ≡ true) so_far.found_is h) }

    pub unsupported_at : found r.conclusion ≡ false → has_premises found r.premises ≡ false → IsFault rules account (MissingPremise place)
    unsupported_at new h =
        record { before = so_far.sound; entry = n; stands = stands; fault = subst (IsUnsupported rules (take place account)) (sym known) (subst (λ xs. (xs r.conclusion ≡ false) × (has_premises xs r.premises ≡ false)) so_far.found_is (new, h)) }

    may_stand : found r.conclusion ≡ false → has_premises found r.premises ≡ true → MayStand rules (take place account) r
    may_stand new supported = record {
      new = subst (λ xs. xs r.conclusion ≡ false) so_far.found_is new;
      supported = subst (λ xs. has_premises xs r.premises ≡ true) so_far.found_is supported;
    }

    pub reads_on : found r.conclusion ≡ false → has_premises found r.premises ≡ true → (more : FeatureSet) → ((f : FeatureValue) → more f ≡ (found f || (feature_eq f r.conclusion || false))) → SoFar rules account (place + 1) more
    reads_on new supported more grown =
        let within = slice_get_within account place n stands in
        let longer : take (place + 1) account ≡ take place account ++ n ∷ [] = take_more account place n within ∙ ap (λ m. take place account ++ m ∷ []) (get_or_from_slice_get account place n n stands) in
        record {
          found_is = (λ i f. (grown f ∙ ap (λ s. s f || (feature_eq f r.conclusion || false)) so_far.found_is ∙ sym (concludes-push rules (take place account) n r known f)) i) ∙ ap (concludes rules) (sym longer);
          sound = subst (IsSound rules) (sym longer) (IsSoundAfter-push rules [] (take place account) n r so_far.sound known (may_stand new supported));
        }

-- a set closed under the first rules is so under one more that is not open
pub closed_more : (s : FeatureSet) (rules : List Rule) (n : ℕ) (r : Rule) → n < length rules → r ≡ get_or rules n r → is_open s r ≡ false → IsClosed (take n rules) s → IsClosed (take (n + 1) rules) s
closed_more s rules n r lt at shut closed q inside held =
    ⊎_elim (λ early. closed q early held) (λ e. subst (λ d. s d.conclusion ≡ true) e (implied _ _ shut (subst (λ d. has_premises s d.premises ≡ true) (sym e) held))) (Contains-push_cases (take n rules) r q (subst (λ xs. Contains xs q) (take_more rules n r lt ∙ ap (λ d. take n rules ++ d ∷ []) (sym at)) inside))

-- the rule after those that a set is closed under is the lowest that is open
pub first_open_at : (s : FeatureSet) (rules : List Rule) (n : ℕ) (r : Rule) → n < length rules → r ≡ get_or rules n r → is_open s r ≡ true → IsClosed (take n rules) s → IsFirstOpen rules s n
first_open_at s rules n r lt at opened closed =
    let both = and_not_parts _ _ opened in
    record {
      rule = r;
      stands = slice_get-get_or rules n r lt ∙ ap Some (sym at);
      supported = both.0;
      left_out = both.1;
      lowest = closed;
    }

-- all entries were read
pub found_at_end : (rules : List Rule) (account : List ℕ) (place : ℕ) (found : FeatureSet) → SoFar rules account place found → take place account ≡ account → found ≡ concludes rules account
found_at_end rules account place found so_far all = so_far.found_is ∙ ap (concludes rules) all

pub sound_at_end : (rules : List Rule) (account : List ℕ) (place : ℕ) (found : FeatureSet) → SoFar rules account place found → take place account ≡ account → IsSound rules account
sound_at_end rules account place found so_far all = subst (IsSound rules) all so_far.sound

-- a fault is a verdict on an account
pub verdict_from_fault : (rules : List Rule) (account : List ℕ) (v : Verdict) → IsFault rules account v → IsVerdict rules account v
verdict_from_fault rules account Accepted h = absurd h
verdict_from_fault rules account (UnknownRule place) h = h
verdict_from_fault rules account (RepeatedConclusion place) h = h
verdict_from_fault rules account (MissingPremise place) h = h
verdict_from_fault rules account (NotClosed number) h = absurd h
verdict_from_fault rules account NotGoal h = absurd h
verdict_from_fault rules account (Unused place) h = absurd h

-- an entry of a sound account is the number of a rule that may stand
pub stands_at : (rules : List Rule) (earlier account : List ℕ) (place n : ℕ) → IsSoundAfter rules earlier account → slice_get account place ≡ Some n → (r : Rule) × (slice_get rules n ≡ Some r) × MayStand rules (earlier ++ take place account) r
stands_at rules earlier [] place n sound e = absurd cc
stands_at rules earlier (m ∷ account) zero n sound e =
    (sound.0, ap (slice_get rules) (sym (ap (λ o. unwrap_or o m) e)) ∙ sound.1, subst (λ xs. MayStand rules xs sound.0) (sym (append-nil earlier)) sound.2)
stands_at rules earlier (m ∷ account) (suc place) n sound e =
    let later = stands_at rules (earlier ++ m ∷ []) account place n sound.3 e in
    (later.0, later.1, subst (λ xs. MayStand rules xs later.0) (append_assoc earlier (m ∷ []) (take place account)) later.2)

-- a sound account has no first fault
no_fault : (rules : List Rule) (account : List ℕ) (place : ℕ) (Fault : List ℕ → Option Rule → Type 0) → ((r : Rule) → MayStand rules (take place account) r → Fault (take place account) (Some r) → ⊥) → IsSound rules account → IsFirstFault rules account place Fault → ⊥
no_fault rules account place Fault refuted sound first =
    let at = stands_at rules [] account place first.entry sound first.stands in
    refuted at.0 at.2 (subst (Fault (take place account)) at.1 first.fault)

-- no fault is told of a sound account
pub sound_has_no_fault : (rules : List Rule) (account : List ℕ) (v : Verdict) → IsSound rules account → IsFault rules account v → ⊥
sound_has_no_fault rules account Accepted sound h = h
sound_has_no_fault rules account (UnknownRule place) sound h =
    no_fault rules account place IsUnknown (λ r may bad. cc) sound h
sound_has_no_fault rules account (RepeatedConclusion place) sound h =
    no_fault rules account place (IsRepeated rules) (λ r may bad. true≢false (sym bad ∙ may.new)) sound h
sound_has_no_fault rules account (MissingPremise place) sound h =
    no_fault rules account place (IsUnsupported rules) (λ r may bad. true≢false (sym may.supported ∙ bad.1)) sound h
sound_has_no_fault rules account (NotClosed number) sound h = h
sound_has_no_fault rules account NotGoal sound h = h
sound_has_no_fault rules account (Unused place) sound h = h

-- a valid account gets no other verdict
pub accepted_from_valid : (rules : List Rule) (account : List ℕ) (v : Verdict) → IsVerdict rules account v → IsValidAccount rules account → v ≡ Accepted
accepted_from_valid rules account Accepted h valid = refl
accepted_from_valid rules account (UnknownRule place) h valid = absurd (sound_has_no_fault rules account (UnknownRule place) valid.sound h)
accepted_from_valid rules account (RepeatedConclusion place) h valid = absurd (sound_has_no_fault rules account (RepeatedConclusion place) valid.sound h)
accepted_from_valid rules account (MissingPremise place) h valid = absurd (sound_has_no_fault rules account (MissingPremise place) valid.sound h)
accepted_from_valid rules account (NotClosed number) h valid =
    let open_rule = h.1 in
    let inside = Contains-slice_get rules number open_rule.rule open_rule.stands in
    absurd (true≢false (sym (valid.closed open_rule.rule inside open_rule.supported) ∙ open_rule.left_out))
accepted_from_valid rules account NotGoal h valid = absurd h
accepted_from_valid rules account (Unused place) h valid = absurd h

-- exactly a valid account is accepted
pub accepted_iff : (rules : List Rule) (account : List ℕ) (v : Verdict) → IsVerdict rules account v → (v ≡ Accepted) ↔ IsValidAccount rules account
accepted_iff rules account v h = (λ e. subst (IsVerdict rules account) e h, accepted_from_valid rules account v h)

pub accepted_if_ok : {E : Type 0} (rules : List Rule) (account : List ℕ) (r : Result Verdict E) → IfOk r (IsVerdict rules account) → IfOk r (λ v. (v ≡ Accepted) ↔ IsValidAccount rules account)
accepted_if_ok rules account (Ok v) h = accepted_iff rules account v h
accepted_if_ok rules account (Err e) h = h
