-- The search for the lowest open rule: what holds between two looks.
use Rattle.std.proofs.Common.{◌≡◌, ◌↔◌, ℕ, zero, suc, ◌+◌, ◌*◌, ◌<◌, ◌≤◌, Bool, true, false, ◌&&◌, ◌||◌, not, List, [], ◌∷◌, ◌++◌, ◌⊎◌, inl, inr, ⊎_elim, IsTrue, Some, Vec, refl, sym, ap, ◌∙◌, subst, Bor, length, length-append, length-take, get_or-take, slice_get, take, nat_eq, unwrap_or, true≢false, arith}
use Rattle.std.specs.BTreeMap as tree
use Rattle.std.specs.Cmp.{IsEquivalence}
use Rattle.std.specs.Global.{Global}
use Rattle.std.specs.List.{list_any}
use Rattle.std.specs.Ordering.{nat_cmp}
use Rattle.std.proofs.lemmas.Bool.{and_parts, and_from, or_cases, or_parts, or_left, or_right}
use Rattle.std.proofs.lemmas.List.Filters.{length-filter_both}
use Rattle.std.proofs.lemmas.Nat.{mul-le}
use Rattle.std.proofs.lemmas.Option.{slice_get_within, slice_get-get_or, get_or_from_slice_get}
use Rattle.indexmap.specs.IndexMap.{IndexMap}
use Rattle.indexmap.specs.IndexSet.{IndexSet}
use Rattle.list_facts.proofs.Tests.{and_not_parts}
use Rattle.workspace_record.specs.Equality.{equivalence}
use Rattle.workspace_record.specs.Features.{FeatureValue, feature_eq, features_decide}
use Rattle.feature_account.specs.Accounts.{conclusions, concluded_set, concludes, IsSound, IsFirstOpen}
use Rattle.feature_account_rules.specs.Closed.{FeatureSet, has_premises, is_open, IsClosed, IsOn}
use Rattle.feature_account_rules.specs.declared.rule.Premises.{Premises}
use Rattle.feature_account_rules.specs.declared.rule.Premises.TheVariants as premises
use Rattle.feature_account_rules.specs.declared.rule.Rule.{Rule}
use Rattle.feature_account.proofs.AccountFacts.{concludes-push, conclusions-push}
use Rattle.feature_account.proofs.ClosedSets.{concludes_iff}
use Rattle.feature_account_making.specs.Lowest.{IsLowestAfter, IsLowestAccount, IsLooksOf}
use Rattle.feature_account_rules.specs.Found.{found_set}
use Rattle.feature_account_making.specs.Waiting.{is_premise, waiting_at, IsWaiting, has, size, IsEach, IsReady, IsTakenLeast, IsWith}
use Rattle.feature_account_making.specs.declared.rule_queue.RuleQueue.{RuleQueue}
use Rattle.feature_account_making.proofs.ConclusionFacts.{sound-push, lowest-push, left_out, left_out-falls, same_open}
use Rattle.feature_account_making.proofs.ReadyFacts.{differs, has_cases}

-- what the search keeps: the account so far, and among the numbers to be looked at each open rule's
pub record Keeps {S : Type 0} (rules : List Rule) (ready : RuleQueue) (found : IndexSet (Bor FeatureValue) S) (account : List ℕ) (looks : ℕ) : Type 0 where
  pub found_is : (f : FeatureValue) → found_set found f ≡ concludes rules account f
  pub sound : IsSound rules account
  pub lowest : IsLowestAfter rules [] account
  pub ready_is : IsReady ready
  pub count_is : ready.count ≡ length rules
  pub open_ready : (n : ℕ) (r : Rule) → slice_get rules n ≡ Some r → is_open (concludes rules account) r ≡ true → has ready n ≡ true
  pub known : (n : ℕ) → has ready n ≡ true → n < length rules
  pub each : length rules ≤ looks + size ready
  pub few : looks + size ready ≤ (length account + 1) * length rules
  pub left : length account + left_out rules (conclusions rules account) ≤ length rules

-- a rule of a closed list is not open, and the other way round
not_open : (a b : Bool) → ((a && not b) ≡ true → ⊥) → a ≡ true → b ≡ true
not_open true true h e = refl
not_open true false h e = absurd (h refl)
not_open false b h e = absurd (true≢false (sym e))

-- where no rule is open, the set is closed
pub closed_where_none : (rules : List Rule) (s : FeatureSet) → ((n : ℕ) (r : Rule) → slice_get rules n ≡ Some r → is_open s r ≡ true → ⊥) → IsClosed rules s
closed_where_none rules s none r inside held = not_open _ _ (none inside.0 r (slice_get-get_or rules inside.0 r inside.1 ∙ ap Some inside.2)) held

-- one feature more may open a rule only if the rule waits for it
newly_open : (s t : FeatureSet) (c : FeatureValue) → ((f : FeatureValue) → t f ≡ (s f || (feature_eq f c || false))) → (r : Rule) → is_open t r ≡ true → (is_open s r ≡ true) ⊎ (is_premise r.premises c ≡ true)
newly_open s t c grown r h =
    let both = and_not_parts (has_premises t r.premises) (t r.conclusion) h in
    let still_out : s r.conclusion ≡ false = (or_parts (s r.conclusion) _ (sym (grown r.conclusion) ∙ both.1)).0 in
    ⊎_elim (λ held. inl (and_from _ _ held (ap not still_out))) inr (held_or_waits r.premises both.0)
  where
    was_or_is : (f : FeatureValue) → t f ≡ true → (s f ≡ true) ⊎ (feature_eq c f ≡ true)
    was_or_is f e =
        ⊎_elim inl (λ late. ⊎_elim (λ same. inr (IsEquivalence.symm (equivalence features_decide) c f ∙ same)) (λ no. absurd (true≢false (sym no))) (or_cases (feature_eq f c) false late)) (or_cases (s f) _ (sym (grown f) ∙ e))

    held_or_waits : (p : Premises) → has_premises t p ≡ true → (has_premises s p ≡ true) ⊎ (is_premise p c ≡ true)
    held_or_waits premises.None e = inl refl
    held_or_waits (premises.One f) e = was_or_is f e
    held_or_waits (premises.Two f g) e =
        let both = and_parts (t f) (t g) e in
        ⊎_elim (λ a. ⊎_elim (λ b. inl (and_from (s f) (s g) a b)) (λ b. inr (or_right (feature_eq c f) (feature_eq c g) b)) (was_or_is g both.1)) (λ a. inr (or_left (feature_eq c f) (feature_eq c g) a)) (was_or_is f both.0)

-- what stands at a number among the first stands there in the whole list
from_take : {X : Type 0} (n : ℕ) (xs : List X) (m : ℕ) (x : X) → slice_get (take n xs) m ≡ Some x → slice_get xs m ≡ Some x
from_take n xs m x at =
    let lt = slice_get_within (take n xs) m x at in
    let count = length-take n xs in
    let below : m < n = omega (arith, lt, count) in
    let inside : m < length xs = omega (arith, lt, count) in
    slice_get-get_or xs m x inside ∙ ap Some (sym (get_or-take n xs m x below) ∙ get_or_from_slice_get (take n xs) m x x at)

-- one entry more allows a look more at each rule
one_round : (entries count looks ready more : ℕ) → more ≡ entries + 1 → looks + 1 + ready ≤ (entries + 1) * count + count → looks + 1 + ready ≤ (more + 1) * count
one_round entries count looks ready more e le = subst (λ m. looks + 1 + ready ≤ (m + 1) * count) (sym e) (omega (arith, le, row entries count))
  where
    row : (a b : ℕ) → (a + 1 + 1) * b ≡ (a + 1) * b + b
    row a b = omega arith

outweighed : (after before count woken ready : ℕ) → after < before → woken < ready + count → after * (count + 1) + woken < before * (count + 1) + ready
outweighed after before count woken ready lt few =
    let row = mul-le (after + 1) (count + 1) before (count + 1) (omega (arith, lt)) (omega arith) in
    omega (arith, row, few)

-- at the beginning each number is to be looked at
pub search_begins : {S : Type 0} (rules : List Rule) (ready : RuleQueue) (found : IndexSet (Bor FeatureValue) S) (account : List ℕ) → account ≡ [] → IsEach (length rules) ready → found.keys ≡ [] → Keeps rules ready found account 0
search_begins rules ready found account none all empty = subst (λ xs. Keeps rules ready found xs 0) (sym none) (
    let count = all.size_is in
    let both = length-filter_both (λ (r : Rule). not (concluded_set [] r.conclusion)) (λ r. not (not (concluded_set [] r.conclusion))) (λ r. refl) rules in
    record {
      found_is = λ f. ap (list_any (λ (k : Bor FeatureValue). feature_eq f k.now)) empty;
      sound = tt;
      lowest = tt;
      ready_is = all.ready_is;
      count_is = all.count_is;
      open_ready = λ n r at h. all.finds n (slice_get_within rules n r at);
      known = all.known;
      each = omega (arith, count);
      few = omega (arith, count);
      left = omega (arith, both);
    })

-- One look: the least number is taken out.
module _ {S : Type 0} (rules : List Rule) (ready rest : RuleQueue) (found : IndexSet (Bor FeatureValue) S) (account : List ℕ) (looks n : ℕ) (rule : Rule) (before : Keeps rules ready found account looks) (stands : slice_get rules n ≡ Some rule) (taken : IsTakenLeast ready rest n) where
  was_ready : (m : ℕ) → has rest m ≡ true → has ready m ≡ true
  was_ready m h = (and_parts (not (nat_eq n m)) (has ready m) (sym (taken.rest m) ∙ h)).1

  still_ready : (m : ℕ) → has ready m ≡ true → (n ≡ m → ⊥) → has rest m ≡ true
  still_ready m h apart = taken.rest m ∙ and_from (not (nat_eq n m)) (has ready m) (ap not (differs n m apart)) h

  same_rule : (m : ℕ) (r : Rule) → slice_get rules m ≡ Some r → n ≡ m → r ≡ rule
  same_rule m r at e = ap (λ o. unwrap_or o r) (sym at ∙ ap (slice_get rules) (sym e) ∙ stands)

  -- a rule that is not open is passed over
  pub passes_over : is_open (found_set found) rule ≡ false → Keeps rules rest found account (looks + 1)
  passes_over shut =
      let each = before.each in
      let few = before.few in
      let count = taken.size_is in
      record {
        found_is = before.found_is;
        ready_is = taken.ready_is;
        count_is = taken.count_is ∙ before.count_is;
        sound = before.sound;
        lowest = before.lowest;
        left = before.left;
        open_ready = λ m r at h. still_ready m (before.open_ready m r at h) (λ e. true≢false (sym (subst (λ q. is_open (concludes rules account) q ≡ true) (same_rule m r at e) h) ∙ sym (same_open (found_set found) (concludes rules account) before.found_is rule) ∙ shut));
        known = λ m h. before.known m (was_ready m h);
        each = omega (arith, each, count);
        few = omega (arith, few, count);
      }

  -- an open rule is the next entry, and the rules that wait for its conclusion are to be looked at
  module _ (opened : is_open (found_set found) rule ≡ true) {T : Type 0} (waiting : IndexMap (Bor FeatureValue) (Vec ℕ Global) T) (waits : IsWaiting rules waiting) (woken : RuleQueue) (more : IndexSet (Bor FeatureValue) S) (with_rule : (f : FeatureValue) → found_set more f ≡ (found_set found f || (feature_eq f rule.conclusion || false))) (wakes : IsWith rest (waiting_at waiting rule.conclusion) woken) where
    is_opened : is_open (concludes rules account) rule ≡ true
    is_opened = sym (same_open (found_set found) (concludes rules account) before.found_is rule) ∙ opened

    below_shut : (m : ℕ) (r : Rule) → m < n → slice_get rules m ≡ Some r → is_open (concludes rules account) r ≡ true → ⊥
    below_shut m r lt at h = let le = taken.least m (before.open_ready m r at h) in omega (arith, lt, le)

    first : IsFirstOpen rules (concludes rules account) n
    first =
        let both = and_not_parts _ _ is_opened in
        record {
          rule = rule;
          stands = stands;
          supported = both.0;
          left_out = both.1;
          lowest = closed_where_none (take n rules) (concludes rules account) (λ m r at h. below_shut m r (let lt = slice_get_within (take n rules) m r at in omega (arith, lt, length-take n rules)) (from_take n rules m r at) h);
        }

    now_open : (m : ℕ) (r : Rule) → slice_get rules m ≡ Some r → is_open (concludes rules (account ++ n ∷ [])) r ≡ true → has woken m ≡ true
    now_open m r at h =
        let grown : (f : FeatureValue) → concludes rules (account ++ n ∷ []) f ≡ (concludes rules account f || (feature_eq f rule.conclusion || false)) = concludes-push rules account n rule stands in
        wakes.finds m ∙ ⊎_elim (λ was. or_right _ _ (still_ready m (before.open_ready m r at was) (λ e. true≢false (sym (own_conclusion (subst (λ q. is_open (concludes rules (account ++ n ∷ [])) q ≡ true) (same_rule m r at e) h)))))) (λ new. or_left _ _ (waits.finds m r rule.conclusion at new)) (newly_open (concludes rules account) (concludes rules (account ++ n ∷ [])) rule.conclusion grown r h)
      where
        own_conclusion : is_open (concludes rules (account ++ n ∷ [])) rule ≡ true → false ≡ true
        own_conclusion o =
            sym ((and_not_parts _ _ o).1) ∙ concludes-push rules account n rule stands rule.conclusion ∙ or_right (concludes rules account rule.conclusion) _ (or_left _ _ ((features_decide rule.conclusion rule.conclusion).1 refl))

    -- fewer rules are left out, so that the numbers woken again are outweighed
    pub looks_end : left_out rules (conclusions rules (account ++ n ∷ [])) * (length rules + 1) + size woken < left_out rules (conclusions rules account) * (length rules + 1) + size ready
    looks_end =
        let lt : left_out rules (conclusions rules (account ++ n ∷ [])) < left_out rules (conclusions rules account) = subst (λ (xs : List FeatureValue). left_out rules xs < left_out rules (conclusions rules account)) (sym (conclusions-push rules account n rule stands)) (left_out-falls rules (conclusions rules account) n rule stands is_opened) in
        let count = taken.size_is in
        let fewer = wakes.few in
        let waiting_few = waits.few rule.conclusion in
        outweighed _ _ (length rules) (size woken) (size ready) lt (omega (arith, count, fewer, waiting_few))

    pub goes_on : Keeps rules woken more (account ++ n ∷ []) (looks + 1)
    goes_on =
        let each = before.each in
        let few = before.few in
        let left = before.left in
        let count = taken.size_is in
        let wake_more = wakes.more in
        let wake_few = wakes.few in
        let waiting_few = waits.few rule.conclusion in
        let falls = left_out-falls rules (conclusions rules account) n rule stands is_opened in
        let pushed = conclusions-push rules account n rule stands in
        let long = length-append account (n ∷ []) in
        record {
          found_is = λ f. with_rule f ∙ ap (λ b. b || (feature_eq f rule.conclusion || false)) (before.found_is f) ∙ sym (concludes-push rules account n rule stands f);
          sound = sound-push rules account n rule before.sound stands is_opened;
          lowest = lowest-push rules [] account n before.lowest first;
          ready_is = wakes.ready_is;
          count_is = wakes.count_is ∙ taken.count_is ∙ before.count_is;
          open_ready = now_open;
          known = λ m h. ⊎_elim (λ new. waits.known m rule.conclusion new) (λ old. before.known m (was_ready m old)) (or_cases _ _ (sym (wakes.finds m) ∙ h));
          each = omega (arith, each, count, wake_more);
          few = one_round (length account) (length rules) looks (size woken) (length (account ++ n ∷ [])) long (omega (arith, few, count, wake_few, waiting_few));
          left = subst (λ (xs : List FeatureValue). length (account ++ n ∷ []) + left_out rules xs ≤ length rules) (sym pushed) (omega (arith, left, falls, long));
        }

-- at the end no rule is open
module _ {S : Type 0} (rules : List Rule) (ready : RuleQueue) (found : IndexSet (Bor FeatureValue) S) (account : List ℕ) (looks : ℕ) (kept : Keeps rules ready found account looks) (empty : size ready ≡ 0) where
  nothing_ready : (n : ℕ) → has ready n ≡ true → ⊥
  nothing_ready n h = ⊎_elim (λ p. let after = p.0 in let below = p.1 in omega (arith, after, below, empty)) (none ready.woken.keys (omega (arith, empty))) (has_cases ready n h)
    where
      none : (ks : List ℕ) → length ks ≡ 0 → list_any (tree.is_at (nat_cmp n)) ks ≡ true → ⊥
      none [] e t = true≢false (sym t)
      none (k ∷ ks) e t = absurd cc

  pub is_lowest : IsLowestAccount rules account
  is_lowest = record {
    valid = record { sound = kept.sound; closed = closed_where_none rules (concludes rules account) (λ n r at h. nothing_ready n (kept.open_ready n r at h)) };
    lowest = kept.lowest;
  }

  pub concludes_what_is_on : (f : FeatureValue) → IsTrue (concludes rules account f) ↔ IsOn rules f
  concludes_what_is_on = concludes_iff rules account is_lowest.valid

  pub looks_are : IsLooksOf rules account looks
  looks_are = let each = kept.each in let few = kept.few in record { each = omega (arith, each, empty); few = omega (arith, few, empty) }

-- a set whose least number is asked for in vain is empty
pub empty_where_none : (count : ℕ) → (0 < count → false ≡ true) → count ≡ 0
empty_where_none zero none = refl
empty_where_none (suc n) none = absurd (true≢false (sym (none (omega arith))))
