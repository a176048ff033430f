-- The numbers that are to be looked at: all at the beginning, more, and without the least.
use Rattle.std.proofs.Common.{◌≡◌, ℕ, ◌+◌, ◌<◌, ◌≤◌, Bool, true, false, cond, not, ◌&&◌, ◌||◌, List, [], ◌∷◌, ◌++◌, ◌⊎◌, inl, inr, ⊎_elim, refl, sym, ap, ◌∙◌, length, length-append, nat_eq, nat_lt, true≢false, arith}
use Rattle.std.specs.BTreeMap as tree
use Rattle.std.specs.BTreeSet as set
use Rattle.std.specs.BTreeSet.{BTreeSet, btree_set_len}
use Rattle.std.specs.Cmp.{unsigned_Decides, unsigned_ties, nat_cmp_is}
use Rattle.std.specs.declared.cmp.Ordering.TheVariants.{Greater}
use Rattle.std.specs.List.{list_any}
use Rattle.std.specs.Ordering.{nat_cmp, is_gt}
use Rattle.std.proofs.lemmas.Bool.{and_parts, and_from, cases_lt, or_cases, or_left, or_right, lt-ltb, le-ltb, ltb-true, ltb-false}
use Rattle.std.proofs.lemmas.List.Folds.{list_any-append}
use Rattle.feature_account_making.specs.Waiting.{has, is_woken, size, IsEach, IsReady, IsTakenLeast, IsWith}
use Rattle.feature_account_making.specs.declared.rule_queue.RuleQueue.{RuleQueue}

-- an empty set has no number
none_had : (s : BTreeSet ℕ) → s.keys ≡ [] → (n : ℕ) → set.contains nat_cmp s n ≡ false
none_had s e n = ap (list_any (tree.is_at (nat_cmp n))) e

-- a number that was never looked at, or was woken
never_looked : (r : RuleQueue) (n : ℕ) → r.next ≤ n → n < r.count → has r n ≡ true
never_looked r n from below = or_left _ _ (and_from _ _ (ap not (le-ltb n r.next from)) (lt-ltb n r.count below))

woken_has : (r : RuleQueue) (n : ℕ) → is_woken r n ≡ true → has r n ≡ true
woken_has r n h = or_right (not (nat_lt n r.next) && nat_lt n r.count) _ h

not_false : (b : Bool) → not b ≡ true → b ≡ false
not_false true e = absurd (true≢false (sym e))
not_false false e = refl

pub has_cases : (r : RuleQueue) (n : ℕ) → has r n ≡ true → ((r.next ≤ n) × (n < r.count)) ⊎ (is_woken r n ≡ true)
has_cases r n h =
    ⊎_elim
    (λ a. let p = and_parts (not (nat_lt n r.next)) (nat_lt n r.count) a in inl (ltb-false n r.next (not_false _ p.0), ltb-true n r.count p.1))
    inr
    (or_cases _ _ h)

pub each_begins : (count : ℕ) (r : RuleQueue) → r.next ≡ 0 → r.count ≡ count → r.woken.keys ≡ [] → IsEach count r
each_begins count r first all none = record {
  ready_is = record { within = omega (arith, first); woken_below = λ n h. absurd (true≢false (sym h ∙ none_had r.woken none n)) };
  count_is = all;
  finds = λ n lt. never_looked r n (omega (arith, first)) (omega (arith, lt, all));
  known = λ n h. ⊎_elim (λ p. let below = p.1 in omega (arith, below, all)) (λ w. absurd (true≢false (sym w ∙ none_had r.woken none n))) (has_cases r n h);
  size_is = let none_is = ap length none in omega (arith, first, all, none_is);
}

-- the same test of both lists of numbers
same_test : (s t : Bool) → (s ≡ true → t ≡ true) → (t ≡ true → s ≡ true) → s ≡ t
same_test true t there back = sym (there refl)
same_test false true there back = back refl
same_test false false there back = refl

-- a number that is below the next one, woken
module _ (old new : RuleQueue) (k : ℕ) (added : Bool) (before : IsReady old) (looked : k < old.next) (next : new.next ≡ old.next) (all : new.count ≡ old.count) (put : set.Updates nat_cmp old.woken new.woken k true) (count : btree_set_len new.woken ≡ btree_set_len old.woken + cond added 1 0) where
  now_woken : (n : ℕ) → is_woken new n ≡ cond (nat_eq k n) true (is_woken old n)
  now_woken n = put.0 n ∙ ap (λ b. cond b true (is_woken old n)) (sym (unsigned_ties k n))

  woken_cases : (n : ℕ) → is_woken new n ≡ true → (k ≡ n) ⊎ (is_woken old n ≡ true)
  woken_cases n h = by (nat_eq k n) refl (sym (now_woken n) ∙ h)
    where
      by : (b : Bool) → nat_eq k n ≡ b → cond b true (is_woken old n) ≡ true → (k ≡ n) ⊎ (is_woken old n ≡ true)
      by true e t = inl ((unsigned_Decides k n).0 e)
      by false e t = inr t

  at_most_one : (b : Bool) → cond b 1 0 ≤ 1
  at_most_one true = omega arith
  at_most_one false = omega arith

  pub woken_with : IsWith old (k ∷ []) new
  woken_with =
      let most = at_most_one added in
      record {
        ready_is = record {
          within = let le = before.within in omega (arith, le, next, all);
          woken_below = λ n h. ⊎_elim (λ e. omega (arith, e, looked, next)) (λ w. let lt = before.woken_below n w in omega (arith, lt, next)) (woken_cases n h);
        };
        count_is = all;
        finds = λ n. same_test (has new n) ((nat_eq n k || false) || has old n) (to n) (from n);
        more = omega (arith, count, next, all);
        few = omega (arith, count, next, all, most);
      }
    where
      to : (n : ℕ) → has new n ≡ true → ((nat_eq n k || false) || has old n) ≡ true
      to n h =
          ⊎_elim
          (λ p. let after = p.0 in let below = p.1 in or_right (nat_eq n k || false) _ (never_looked old n (omega (arith, after, next)) (omega (arith, below, all))))
          (λ w. ⊎_elim (λ e. or_left (nat_eq n k || false) _ (or_left (nat_eq n k) false ((unsigned_Decides n k).1 (sym e)))) (λ was. or_right (nat_eq n k || false) _ (woken_has old n was)) (woken_cases n w))
          (has_cases new n h)

      here : (n : ℕ) → k ≡ n → is_woken new n ≡ true
      here n e = now_woken n ∙ ap (λ b. cond b true (is_woken old n)) ((unsigned_Decides k n).1 e)

      kept : (n : ℕ) → is_woken old n ≡ true → is_woken new n ≡ true
      kept n h = now_woken n ∙ ap (cond (nat_eq k n) true) h ∙ both (nat_eq k n)
        where
          both : (b : Bool) → cond b true true ≡ true
          both true = refl
          both false = refl

      from : (n : ℕ) → ((nat_eq n k || false) || has old n) ≡ true → has new n ≡ true
      from n h =
          ⊎_elim
          (λ a. ⊎_elim (λ e. woken_has new n (here n (sym ((unsigned_Decides n k).0 e)))) (λ no. absurd (true≢false (sym no))) (or_cases (nat_eq n k) false a))
          (λ o. ⊎_elim (λ p. let after = p.0 in let below = p.1 in never_looked new n (omega (arith, after, next)) (omega (arith, below, all))) (λ w. woken_has new n (kept n w)) (has_cases old n o))
          (or_cases (nat_eq n k || false) _ h)

-- a number that is not below the next one is to be looked at anyway
pub known_with : (old : RuleQueue) (k : ℕ) → IsReady old → old.next ≤ k → k < old.count → IsWith old (k ∷ []) old
known_with old k before after below = record {
  ready_is = before;
  count_is = refl;
  finds = λ n. same_test (has old n) ((nat_eq n k || false) || has old n) (or_right (nat_eq n k || false) (has old n)) (from n);
  more = omega arith;
  few = omega arith;
}
  where
    from : (n : ℕ) → ((nat_eq n k || false) || has old n) ≡ true → has old n ≡ true
    from n h =
        ⊎_elim
        (λ a. ⊎_elim (λ e. let same = (unsigned_Decides n k).0 e in never_looked old n (omega (arith, same, after)) (omega (arith, same, below))) (λ no. absurd (true≢false (sym no))) (or_cases (nat_eq n k) false a))
        (λ o. o)
        (or_cases (nat_eq n k || false) _ h)

pub with_none : (ready : RuleQueue) → IsReady ready → IsWith ready [] ready
with_none ready is = record { ready_is = is; count_is = refl; finds = λ n. refl; more = omega arith; few = omega arith }

-- numbers, and then one more
pub with_then : (first mid new : RuleQueue) (numbers : List ℕ) (k : ℕ) → IsWith first numbers mid → IsWith mid (k ∷ []) new → IsWith first (numbers ++ k ∷ []) new
with_then first mid new numbers k some one =
    let more = some.more in
    let few = some.few in
    let one_more = one.more in
    let one_few = one.few in
    let long = length-append numbers (k ∷ []) in
    record {
      ready_is = one.ready_is;
      count_is = one.count_is ∙ some.count_is;
      finds = λ n. one.finds n ∙ ap (λ b. (nat_eq n k || false) || b) (some.finds n) ∙ joined (nat_eq n k || false) (list_any (nat_eq n) numbers) (has first n) ∙ ap (λ b. b || has first n) (sym (list_any-append (nat_eq n) numbers (k ∷ [])));
      more = omega (arith, more, one_more);
      few = omega (arith, few, one_few, long);
    }
  where
    joined : (q x y : Bool) → (q || (x || y)) ≡ ((x || q) || y)
    joined true true y = refl
    joined true false y = refl
    joined false true y = refl
    joined false false y = refl

pub differs : (n m : ℕ) → (n ≡ m → ⊥) → nat_eq n m ≡ false
differs n m apart = by (nat_eq n m) refl
  where
    by : (b : Bool) → nat_eq n m ≡ b → nat_eq n m ≡ false
    by true e = absurd (apart ((unsigned_Decides n m).0 e))
    by false e = e

apart_from : (n m : ℕ) → not (nat_eq n m) ≡ true → n ≡ m → ⊥
apart_from n m h e = true≢false (sym h ∙ ap not ((unsigned_Decides n m).1 e))

not_above : (n m : ℕ) → is_gt (nat_cmp n m) ≡ false → n ≤ m
not_above n m e = ⊎_elim (λ (lt : m < n). absurd (true≢false (ap is_gt (nat_cmp_is n m Greater lt) ∙ e))) (λ (le : n ≤ m). le) (cases_lt m n)

-- the least of the numbers that were woken, taken out
module _ (old new : RuleQueue) (n : ℕ) (before : IsReady old) (next : new.next ≡ old.next) (all : new.count ≡ old.count) (put : set.Updates nat_cmp old.woken new.woken n false) (member : is_woken old n ≡ true) (lowest : set.IsLowerBound nat_cmp old.woken n) (count : btree_set_len new.woken + 1 ≡ btree_set_len old.woken) where
  still_woken : (m : ℕ) → is_woken new m ≡ cond (nat_eq n m) false (is_woken old m)
  still_woken m = put.0 m ∙ ap (λ b. cond b false (is_woken old m)) (sym (unsigned_ties n m))

  was_woken : (m : ℕ) → is_woken new m ≡ true → (nat_eq n m ≡ false) × (is_woken old m ≡ true)
  was_woken m h = by (nat_eq n m) refl (sym (still_woken m) ∙ h)
    where
      by : (b : Bool) → nat_eq n m ≡ b → cond b false (is_woken old m) ≡ true → (nat_eq n m ≡ false) × (is_woken old m ≡ true)
      by true e t = absurd (true≢false (sym t))
      by false e t = (e, t)

  pub least_woken : IsTakenLeast old new n
  least_woken =
      let low : n < old.next = before.woken_below n member in
      record {
        ready_is = record {
          within = let le = before.within in omega (arith, le, next, all);
          woken_below = λ m h. let lt = before.woken_below m (was_woken m h).1 in omega (arith, lt, next);
        };
        count_is = all;
        member = woken_has old n member;
        least = λ m h. ⊎_elim (λ p. let after = p.0 in omega (arith, low, after)) (λ w. not_above n m (lowest m w)) (has_cases old m h);
        rest = λ m. same_test (has new m) (not (nat_eq n m) && has old m) (to m low) (from m);
        size_is = omega (arith, count, next, all);
      }
    where
      to : (m : ℕ) → n < old.next → has new m ≡ true → (not (nat_eq n m) && has old m) ≡ true
      to m low h =
          ⊎_elim
          (λ p. let after = p.0 in let below = p.1 in and_from _ _ (ap not (differs n m (λ e. omega (arith, e, low, after, next)))) (never_looked old m (omega (arith, after, next)) (omega (arith, below, all))))
          (λ w. let was = was_woken m w in and_from _ _ (ap not was.0) (woken_has old m was.1))
          (has_cases new m h)

      from : (m : ℕ) → (not (nat_eq n m) && has old m) ≡ true → has new m ≡ true
      from m h =
          let both = and_parts (not (nat_eq n m)) (has old m) h in
          ⊎_elim
          (λ p. let after = p.0 in let below = p.1 in never_looked new m (omega (arith, after, next)) (omega (arith, below, all)))
          (λ w. woken_has new m (still_woken m ∙ ap (λ b. cond b false (is_woken old m)) (not_false _ both.0) ∙ w))
          (has_cases old m both.1)

-- the next number, taken out where none is woken
module _ (old new : RuleQueue) (before : IsReady old) (none : old.woken.keys ≡ []) where
  none_woken : (m : ℕ) → is_woken old m ≡ true → ⊥
  none_woken m h = true≢false (sym h ∙ none_had old.woken none m)

  module _ (below : old.next < old.count) (next : new.next ≡ old.next + 1) (all : new.count ≡ old.count) (same : new.woken ≡ old.woken) where
    none_now : (m : ℕ) → is_woken new m ≡ true → ⊥
    none_now m h = none_woken m (sym (ap (λ (s : BTreeSet ℕ). set.contains nat_cmp s m) same) ∙ h)

    pub next_taken : IsTakenLeast old new old.next
    next_taken = record {
      ready_is = record { within = omega (arith, below, next, all); woken_below = λ m h. absurd (none_now m h) };
      count_is = all;
      member = never_looked old old.next (omega arith) below;
      least = λ m h. ⊎_elim (λ p. p.0) (λ w. absurd (none_woken m w)) (has_cases old m h);
      rest = λ m. same_test (has new m) (not (nat_eq old.next m) && has old m) (to m) (from m);
      size_is = let kept = ap (λ (s : BTreeSet ℕ). btree_set_len s) same in omega (arith, below, next, all, kept);
    }
      where
        to : (m : ℕ) → has new m ≡ true → (not (nat_eq old.next m) && has old m) ≡ true
        to m h =
            ⊎_elim
            (λ p. let after = p.0 in let lt = p.1 in and_from _ _ (ap not (differs old.next m (λ e. omega (arith, e, after, next)))) (never_looked old m (omega (arith, after, next)) (omega (arith, lt, all))))
            (λ w. absurd (none_now m w))
            (has_cases new m h)

        from : (m : ℕ) → (not (nat_eq old.next m) && has old m) ≡ true → has new m ≡ true
        from m h =
            let both = and_parts (not (nat_eq old.next m)) (has old m) h in
            ⊎_elim
            (λ p.
            let after = p.0 in
            let lt = p.1 in
            let apart = apart_from old.next m both.0 in
            let more : old.next < m = ⊎_elim (λ (less : old.next < m). less) (λ (le : m ≤ old.next). absurd (apart (omega (arith, le, after)))) (cases_lt old.next m) in
            never_looked new m (omega (arith, more, next)) (omega (arith, lt, all)))
            (λ w. absurd (none_woken m w))
            (has_cases old m both.1)

  pub none_left : old.count ≤ old.next → size old ≡ 0
  none_left past = let empty = ap length none in omega (arith, past, empty)
