-- A valid account has no verdict but that it is accepted.
use Rattle.std.proofs.Common.{◌≡◌, ℕ, zero, suc, List, [], ◌∷◌, ◌++◌, Option, Some, take, slice_get, refl, sym, subst, append-nil, append_assoc}
use Rattle.feature_account.specs.Accounts.{IsFirstFault, IsRepeated, IsSoundAfter, IsUnknown, IsUnsupported, IsValidAccount, IsVerdict, MayStand}
use Rattle.feature_account.specs.declared.verdict.Verdict.{Verdict}
use Rattle.feature_account.specs.declared.verdict.Verdict.TheVariants.{Accepted, MissingPremise, NotClosed, NotGoal, RepeatedConclusion, UnknownRule, Unused}
use Rattle.feature_account.proofs.AccountFacts.{Contains-slice_get}
use Rattle.feature_account_rules.specs.declared.rule.Rule.{Rule}

-- the rule of an entry may stand after those before it
abbrev StandsThere : List Rule → List ℕ → ℕ → Type 0
StandsThere rules earlier entry = (rule : Rule) × (slice_get rules entry ≡ Some rule) × MayStand rules earlier rule

-- so does each entry of a sound account
entry_stands : (rules : List Rule) (earlier account : List ℕ) (place entry : ℕ) → IsSoundAfter rules earlier account → slice_get account place ≡ Some entry → StandsThere rules (earlier ++ take place account) entry
entry_stands rules earlier [] place entry sound at = absurd cc
entry_stands rules earlier (n ∷ ns) zero entry sound at =
    let same : n ≡ entry = cc at in
    subst (λ m. StandsThere rules (earlier ++ []) m) same (subst (λ l. StandsThere rules l n) (sym (append-nil earlier)) (sound.0, sound.1, sound.2))
entry_stands rules earlier (n ∷ ns) (suc place) entry sound at =
    subst (λ l. StandsThere rules l entry) (append_assoc earlier (n ∷ []) (take place ns)) (entry_stands rules (earlier ++ n ∷ []) ns place entry sound.3 at)

module _ (rules : List Rule) (account : List ℕ) (valid : IsValidAccount rules account) where
  -- no entry is at fault
  no_fault : (place : ℕ) (Fault : List ℕ → Option Rule → Type 0) → ((earlier : List ℕ) (rule : Rule) → MayStand rules earlier rule → Fault earlier (Some rule) → ⊥) → IsFirstFault rules account place Fault → ⊥
  no_fault place Fault never h =
      let stands = entry_stands rules [] account place h.entry valid.sound h.stands in
      never (take place account) stands.0 stands.2 (subst (Fault (take place account)) stands.1 h.fault)

  pub accepted_alone : (verdict : Verdict) → IsVerdict rules account verdict → verdict ≡ Accepted
  accepted_alone Accepted h = refl
  accepted_alone (NotClosed number) h =
      let concluded = valid.closed h.1.rule (Contains-slice_get rules number h.1.rule h.1.stands) h.1.supported in
      absurd (cc (concluded, h.1.left_out))
  accepted_alone (UnknownRule place) h = absurd (no_fault place IsUnknown (λ earlier rule may none. cc none) h)
  accepted_alone (RepeatedConclusion place) h =
      absurd (no_fault place (IsRepeated rules) (λ earlier rule may again. cc (may.new, again)) h)
  accepted_alone (MissingPremise place) h =
      absurd (no_fault place (IsUnsupported rules) (λ earlier rule may missing. cc (may.supported, missing.1)) h)
  accepted_alone NotGoal h = absurd h
  accepted_alone (Unused place) h = absurd h
