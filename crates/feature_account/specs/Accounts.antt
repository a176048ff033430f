-- Accounts of what is on: lists of rule numbers, each of which may stand where it does.
use Rattle.std.specs.Prelude.{◌≡◌, ℕ, true, false, List, [], ◌∷◌, ◌++◌, Option, Some, None, option_map, take, slice_get}
use Rattle.std.specs.List.{list_any, filter_map}
use Rattle.workspace_record.specs.Features.{FeatureValue, feature_eq}
use Rattle.feature_account_rules.specs.Closed.{FeatureSet, has_premises, IsClosed}
use Rattle.feature_account_rules.specs.declared.rule.Rule.{Rule}
use Rattle.feature_account.specs.declared.verdict.Verdict.{Verdict}
use Rattle.feature_account.specs.declared.verdict.Verdict.TheVariants.{Accepted, UnknownRule, RepeatedConclusion, MissingPremise, NotClosed, NotGoal, Unused}

-- what the entries conclude, in their order
abbrev pub conclusions : List Rule → List ℕ → List FeatureValue
conclusions rules account = filter_map (λ n. option_map (λ r. r.conclusion) (slice_get rules n)) account

-- the set of these features
abbrev pub concluded_set : List FeatureValue → FeatureSet
concluded_set features f = list_any (feature_eq f) features

-- some entry concludes the feature
abbrev pub concludes : List Rule → List ℕ → FeatureSet
concludes rules account = concluded_set (conclusions rules account)

-- the rule of an entry may stand after the earlier entries: its conclusion is new, and its premises were concluded
pub record MayStand (rules : List Rule) (earlier : List ℕ) (rule : Rule) : Type 0 where
  pub new : concludes rules earlier rule.conclusion ≡ false
  pub supported : has_premises (concludes rules earlier) rule.premises ≡ true

-- each of the entries is the number of a rule that may stand after the earlier ones and those before it
abbrev pub IsSoundAfter : List Rule → List ℕ → List ℕ → Type 0
IsSoundAfter rules earlier [] = Unit {0}
IsSoundAfter rules earlier (n ∷ ns) = (rule : Rule) × (slice_get rules n ≡ Some rule) × MayStand rules earlier rule × IsSoundAfter rules (earlier ++ n ∷ []) ns

-- an account whose entries may all stand
abbrev pub IsSound : List Rule → List ℕ → Type 0
IsSound rules account = IsSoundAfter rules [] account

-- a sound account that leaves nothing out: what it concludes is closed
pub record IsValidAccount (rules : List Rule) (account : List ℕ) : Type 0 where
  pub sound : IsSound rules account
  pub closed : IsClosed rules (concludes rules account)

-- the entry at the place is the first that may not stand
pub record IsFirstFault (rules : List Rule) (account : List ℕ) (place : ℕ) (Fault : List ℕ → Option Rule → Type 0) : Type 0 where
  pub before : IsSound rules (take place account)
  pub entry : ℕ
  pub stands : slice_get account place ≡ Some entry
  pub fault : Fault (take place account) (slice_get rules entry)

-- no rule has the number
abbrev pub IsUnknown : List ℕ → Option Rule → Type 0
IsUnknown earlier rule = rule ≡ None

-- an earlier entry has the conclusion
abbrev pub IsRepeated : List Rule → List ℕ → Option Rule → Type 0
IsRepeated rules earlier None = ⊥
IsRepeated rules earlier (Some r) = concludes rules earlier r.conclusion ≡ true

-- the conclusion is new, and a premise was not concluded
abbrev pub IsUnsupported : List Rule → List ℕ → Option Rule → Type 0
IsUnsupported rules earlier None = ⊥
IsUnsupported rules earlier (Some r) = (concludes rules earlier r.conclusion ≡ false) × (has_premises (concludes rules earlier) r.premises ≡ false)

-- the lowest rule whose premises the set has, and not its conclusion
pub record IsFirstOpen (rules : List Rule) (s : FeatureSet) (number : ℕ) : Type 0 where
  pub rule : Rule
  pub stands : slice_get rules number ≡ Some rule
  pub supported : has_premises s rule.premises ≡ true
  pub left_out : s rule.conclusion ≡ false
  pub lowest : IsClosed (take number rules) s

-- the verdict tells the first entry that may not stand, and why
abbrev pub IsFault : List Rule → List ℕ → Verdict → Type 0
IsFault rules entries (UnknownRule place) = IsFirstFault rules entries place IsUnknown
IsFault rules entries (RepeatedConclusion place) = IsFirstFault rules entries place (IsRepeated rules)
IsFault rules entries (MissingPremise place) = IsFirstFault rules entries place (IsUnsupported rules)
IsFault rules entries Accepted = ⊥
IsFault rules entries (NotClosed number) = ⊥
IsFault rules entries NotGoal = ⊥
IsFault rules entries (Unused place) = ⊥

-- what is to be said of an account: that it is valid, or its first fault
abbrev pub IsVerdict : List Rule → List ℕ → Verdict → Type 0
IsVerdict rules account Accepted = IsValidAccount rules account
IsVerdict rules account (NotClosed number) = IsSound rules account × IsFirstOpen rules (concludes rules account) number
IsVerdict rules account fault = IsFault rules account fault
