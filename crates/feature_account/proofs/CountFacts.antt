-- A sound account has as many entries as features that it concludes.
use Rattle.std.proofs.Common.{◌≡◌, ◌∙◌, refl, sym, ap, subst, ℕ, suc, ◌+◌, ◌≤◌, true, false, true≢false, arith, inl, inr, ⊎_elim, ◌↔◌, List, [], ◌∷◌, ◌++◌, append-nil, append_assoc, Contains, length, Less, Equal}
use Rattle.std.specs.Cmp.{IsTotalOrder}
use Rattle.std.proofs.lemmas.Cmp.{tied_itself}
use Rattle.std.specs.List.{AllByRecursion}
use Rattle.std.specs.List.Sorted.{IsStrictlySortedBy}
use Rattle.std.specs.Ordering.{is_lt}
use Rattle.std.specs.declared.cmp.Ordering.{Ordering}
use Rattle.std.proofs.lemmas.List.{length-append}
use Rattle.list_facts.proofs.Membership.{Contains-append_cases, Contains-append_left, Contains-append_right, Contains-cons_cases, Contains-first, Contains-none, Contains-rest}
use Rattle.workspace_record.specs.Features.{FeatureValue, feature_cmp, feature_cmp_total}
use Rattle.feature_account.specs.Accounts.{conclusions, IsSoundAfter, IsValidAccount}
use Rattle.feature_account.specs.Laws.{AccountsCountWhatIsOn}
use Rattle.feature_account_rules.specs.declared.rule.Rule.{Rule}
use Rattle.feature_account.proofs.AccountFacts.{conclusions-push}
use Rattle.feature_account.proofs.ClosedSets.{concludes_iff}
use Rattle.feature_account.proofs.ConcludedFacts.{concluded_iff}

module _ {X : Type 0} where
  -- no element stands twice
  abbrev Distinct : List X → Type 0
  Distinct [] = Unit {0}
  Distinct (x ∷ xs) = (Contains xs x → ⊥) × Distinct xs

  distinct_push : (xs : List X) (x : X) → Distinct xs → (Contains xs x → ⊥) → Distinct (xs ++ x ∷ [])
  distinct_push [] x distinct none = (λ h. Contains-none x h, tt)
  distinct_push (y ∷ xs) x distinct none = (
    λ h. ⊎_elim (λ inside. distinct.0 inside) (λ last. ⊎_elim (λ is. none (subst (Contains (y ∷ xs)) (sym is) (Contains-first y xs))) (λ n. Contains-none y n) (Contains-cons_cases x [] y last)) (Contains-append_cases xs (x ∷ []) y h),
    distinct_push xs x distinct.1 (λ inside. none (Contains-rest y xs x inside)),
  )

  -- a list parted at one of its elements
  record Parted (ys : List X) (x : X) : Type 0 where
    front : List X
    back : List X
    whole : ys ≡ front ++ x ∷ back

  parted : (ys : List X) (x : X) → Contains ys x → Parted ys x
  parted [] x h = absurd (Contains-none x h)
  parted (y ∷ ys) x h =
      ⊎_elim
      (λ is. record { front = []; back = ys; whole = ap (λ z. z ∷ ys) is })
      (λ later. let p = parted ys x later in record { front = y ∷ p.front; back = p.back; whole = ap (λ zs. y ∷ zs) p.whole })
      (Contains-cons_cases y ys x h)

  without : (front back : List X) (x z : X) → (z ≡ x → ⊥) → Contains (front ++ x ∷ back) z → Contains (front ++ back) z
  without front back x z other h =
      ⊎_elim
      (λ before. Contains-append_left front back z before)
      (λ from. ⊎_elim (λ is. absurd (other (sym is))) (λ after. Contains-append_right front back z after) (Contains-cons_cases x back z from))
      (Contains-append_cases front (x ∷ back) z h)

  -- of distinct elements that are all among others there are at most as many
  at_most : (xs ys : List X) → Distinct xs → ((x : X) → Contains xs x → Contains ys x) → length xs ≤ length ys
  at_most [] ys distinct within = omega arith
  at_most (x ∷ xs) ys distinct within =
      let p = parted ys x (within x (Contains-first x xs)) in
      let rest = at_most xs (p.front ++ p.back) distinct.1 (λ z inside. without p.front p.back x z (λ is. distinct.0 (subst (Contains xs) is inside)) (subst (λ zs. Contains zs z) p.whole (within z (Contains-rest x xs z inside)))) in
      let size : length ys ≡ suc (length (p.front ++ p.back)) = ap length p.whole ∙ length-append p.front (x ∷ p.back) ∙ one_more (length p.front) (length p.back) ∙ sym (ap suc (length-append p.front p.back)) in
      omega (arith, rest, size)
    where
      one_more : (a b : ℕ) → a + suc b ≡ suc (a + b)
      one_more a b = omega arith

-- what ascends has no element twice
below_all : {X : Type 0} (cmp : X → X → Ordering) (x y : X) (ys : List X) → AllByRecursion (λ z. cmp x z ≡ Less) ys → Contains ys y → cmp x y ≡ Less
below_all cmp x y [] all h = absurd (Contains-none y h)
below_all cmp x y (z ∷ ys) all h = ⊎_elim (λ is. subst (λ w. cmp x w ≡ Less) is all.0) (λ later. below_all cmp x y ys all.1 later) (Contains-cons_cases z ys y h)

ascending_distinct : {X : Type 0} (cmp : X → X → Ordering) → IsTotalOrder cmp → (xs : List X) → IsStrictlySortedBy cmp xs → Distinct xs
unfolding IsStrictlySortedBy
ascending_distinct cmp total [] h = tt
ascending_distinct cmp total (x ∷ xs) h = (
  λ again. true≢false (sym (ap is_lt (below_all cmp x x xs h.0 again)) ∙ ap is_lt (tied_itself total x)),
  ascending_distinct cmp total xs h.1,
)

-- each entry concludes one feature more
record EachIsNew (rules : List Rule) (account : List ℕ) : Type 0 where
  distinct : Distinct (conclusions rules account)
  size : length (conclusions rules account) ≡ length account

new_after : (rules : List Rule) (earlier account : List ℕ) → IsSoundAfter rules earlier account → EachIsNew rules earlier → EachIsNew rules (earlier ++ account)
new_after rules earlier [] sound so_far = subst (EachIsNew rules) (sym (append-nil earlier)) so_far
new_after rules earlier (n ∷ account) sound so_far =
    let rule = sound.0 in
    let is_new : Contains (conclusions rules earlier) rule.conclusion → ⊥ = λ inside. true≢false (sym ((concluded_iff (conclusions rules earlier) rule.conclusion).1 inside) ∙ sound.2.new) in
    let pushed = conclusions-push rules earlier n rule sound.1 in
    let more : EachIsNew rules (earlier ++ n ∷ []) = record {
      distinct = subst Distinct (sym pushed) (distinct_push (conclusions rules earlier) rule.conclusion so_far.distinct is_new);
      size = ap length pushed ∙ length-append (conclusions rules earlier) (rule.conclusion ∷ []) ∙ ap (λ k. k + 1) so_far.size ∙ sym (length-append earlier (n ∷ []));
    } in
    subst (EachIsNew rules) (append_assoc earlier (n ∷ []) account) (new_after rules (earlier ++ n ∷ []) account sound.3 more)

pub counts_what_is_on : AccountsCountWhatIsOn
counts_what_is_on rules account on valid members ascending =
    let each = new_after rules [] account valid.sound (record { distinct = tt; size = refl }) in
    let concluded : (f : FeatureValue) → Contains (conclusions rules account) f ↔ Contains on f = λ f. (
      λ h. (members f).1 ((concludes_iff rules account valid f).0 ((concluded_iff (conclusions rules account) f).1 h)),
      λ h. (concluded_iff (conclusions rules account) f).0 ((concludes_iff rules account valid f).1 ((members f).0 h)),
    ) in
    let few = at_most (conclusions rules account) on each.distinct (λ f. (concluded f).0) in
    let many = at_most on (conclusions rules account) (ascending_distinct feature_cmp feature_cmp_total on ascending) (λ f. (concluded f).1) in
    sym each.size ∙ grind (arith, few, many)
