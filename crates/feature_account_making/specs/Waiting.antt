-- What a search over rules keeps: which rules wait for a feature, and which are to be looked at.
pub use Rattle.feature_account_rules.specs.Closed.{is_premise}
use Rattle.std.specs.Prelude.{◌≡◌, ℕ, ◌+◌, ◌-◌, ◌<◌, ◌≤◌, Bool, true, ◌&&◌, ◌||◌, not, List, [], Some, length, slice_get, Vec, nat_eq, nat_lt}
use Rattle.std.specs.BTreeSet as set
use Rattle.std.specs.BTreeSet.{btree_set_len}
use Rattle.std.specs.Borrow.{Bor}
use Rattle.std.specs.Global.{Global}
use Rattle.std.specs.List.{list_any}
use Rattle.std.specs.Option.{option_map_or}
use Rattle.std.specs.Ordering.{nat_cmp}
use Rattle.indexmap.specs.IndexMap.{IndexMap, get_by}
use Rattle.workspace_record.specs.Features.{FeatureValue, feature_eq}
use Rattle.feature_account_rules.specs.declared.rule.Rule.{Rule}
use Rattle.feature_account_making.specs.declared.rule_queue.RuleQueue.{RuleQueue}

-- the numbers that the map has for a feature
abbrev pub waiting_at : {S : Type 0} → IndexMap (Bor FeatureValue) (Vec ℕ Global) S → FeatureValue → List ℕ
waiting_at waiting f = option_map_or (λ v. v.items) (get_by (λ k. feature_eq f k.now) waiting) []

-- the map has for a feature the numbers of the rules that wait for it, each once at most
pub record IsWaiting {S : Type 0} (rules : List Rule) (waiting : IndexMap (Bor FeatureValue) (Vec ℕ Global) S) : Type 0 where
  pub finds : (n : ℕ) (r : Rule) (f : FeatureValue) → slice_get rules n ≡ Some r → is_premise r.premises f ≡ true → list_any (nat_eq n) (waiting_at waiting f) ≡ true
  pub known : (n : ℕ) (f : FeatureValue) → list_any (nat_eq n) (waiting_at waiting f) ≡ true → n < length rules
  pub few : (f : FeatureValue) → length (waiting_at waiting f) ≤ length rules

-- the number was woken
abbrev pub is_woken : RuleQueue → ℕ → Bool
is_woken ready n = set.contains nat_cmp ready.woken n

-- the number is to be looked at: it never was, or was woken since
abbrev pub has : RuleQueue → ℕ → Bool
has ready n = (not (nat_lt n ready.next) && nat_lt n ready.count) || is_woken ready n

-- how many numbers are to be looked at
abbrev pub size : RuleQueue → ℕ
size ready = (ready.count - ready.next) + btree_set_len ready.woken

-- the numbers below the next one were looked at, and none else was woken
pub record IsReady (ready : RuleQueue) : Type 0 where
  pub within : ready.next ≤ ready.count
  pub woken_below : (n : ℕ) → is_woken ready n ≡ true → n < ready.next

-- each of this many numbers is to be looked at
pub record IsEach (count : ℕ) (ready : RuleQueue) : Type 0 where
  pub ready_is : IsReady ready
  pub count_is : ready.count ≡ count
  pub finds : (n : ℕ) → n < count → has ready n ≡ true
  pub known : (n : ℕ) → has ready n ≡ true → n < count
  pub size_is : size ready ≡ count

-- the numbers are to be looked at besides those that were, and no others
pub record IsWith (old : RuleQueue) (numbers : List ℕ) (new : RuleQueue) : Type 0 where
  pub ready_is : IsReady new
  pub count_is : new.count ≡ old.count
  pub finds : (n : ℕ) → has new n ≡ (list_any (nat_eq n) numbers || has old n)
  pub more : size old ≤ size new
  pub few : size new ≤ size old + length numbers

-- the number is the least of those that were to be looked at, and was taken out
pub record IsTakenLeast (old new : RuleQueue) (n : ℕ) : Type 0 where
  pub ready_is : IsReady new
  pub count_is : new.count ≡ old.count
  pub member : has old n ≡ true
  pub least : (m : ℕ) → has old m ≡ true → n ≤ m
  pub rest : (m : ℕ) → has new m ≡ (not (nat_eq n m) && has old m)
  pub size_is : size new + 1 ≡ size old
