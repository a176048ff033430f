-- Nodes are on one cycle where at least one link leads from each to the other.
use Rattle.std.proofs.Common.{◌≡◌, ◌↔◌, ◌+◌, ◌<◌, ℕ, suc, Bool, true, false, not, cond, nat_eq, List, [], ◌∷◌, Contains, length, get_or, drop, subst, sym, refl, ap, ◌∙◌, ⊎_elim, arith, if◌then◌else◌}
use Rattle.std.specs.List.{position_or_len}
use Rattle.std.proofs.Math.Seq.{drop-cons}
use Rattle.std.proofs.lemmas.Bool.{cases_lt, eqb-true, eq-eqb}
use Rattle.std.proofs.lemmas.List.{get_or_default}
use Rattle.std.proofs.lemmas.List.Elements.{Contains-get_or}
use Rattle.std.proofs.lemmas.List.Sums.{prefix_len_stops}
use Rattle.list_facts.proofs.Membership.{Contains-flat_map, Contains-flat_map_cases}
use Rattle.list_facts.proofs.Quantifiers.{ends_before, list_any-from_Contains, list_any_cases}
use Rattle.numbered_graph.specs.declared.direction.Direction.{Direction}
use Rattle.numbered_graph.specs.declared.direction.Direction.TheVariants.{Forward, Reverse}
use Rattle.numbered_graph.specs.declared.link.Link.{Link}
use Rattle.numbered_graph.specs.CycleNumbers.{AreCyclic, AreNumbers, NumberedCyclesValue, Walks}
use Rattle.numbered_graph.specs.Cycles.{AreCycles, IsOnCycle, has_node}
use Rattle.numbered_graph.specs.Paths.{AreMutual, LeadsOn, Reaches, any_link}
use Rattle.numbered_graph.proofs.PathFacts.{Reaches-link, Reaches-trans}

-- the number of the first list that the node is in
abbrev number_in : List (List ℕ) → ℕ → ℕ
number_in lists v = position_or_len (has_node v) lists

not_not : (b : Bool) → not b ≡ false → b ≡ true
not_not true e = refl
not_not false e = sym e

module _ {links : List Link} where
  -- what lead to each other lead on in both directions
  both_ways : (d : Direction) {a b : ℕ} → Reaches links any_link a b → Reaches links any_link b a → LeadsOn d links any_link a b
  both_ways Forward there back = there
  both_ways Reverse there back = back

  walk_reaches : {a b : ℕ} → Walks links a b → Reaches links any_link a b
  walk_reaches w = Reaches-trans w.there (Reaches-trans (Reaches-link links any_link w.link w.within refl) w.on)

  module _ {d : Direction} {cycles : List (List ℕ)} (cyclic : AreCycles d links cycles) where
    in_numbered : (v : ℕ) → number_in cycles v < length cycles → Contains (get_or cycles (number_in cycles v) []) v
    in_numbered v lt =
        let found = list_any_cases (nat_eq v) (get_or cycles (number_in cycles v) []) (not_not _ (prefix_len_stops (λ c. not (has_node v c)) cycles [] lt)) in
        subst (Contains (get_or cycles (number_in cycles v) [])) (sym (eqb-true v found.0 found.2)) found.1

    numbered : (v : ℕ) → IsOnCycle links v → number_in cycles v < length cycles
    numbered v on =
        let c = Contains-flat_map_cases (λ (c : List ℕ). c) cycles v ((cyclic.each v).1 on) in
        ends_before (has_node v) cycles c.1.0 c.0 c.1.1 (subst (λ e. has_node v e ≡ true) (sym c.1.2) (list_any-from_Contains (nat_eq v) c.0 v c.2 (eq-eqb v v refl)))

    on_cycle : {a b : ℕ} → AreCyclic links a b → IsOnCycle links a
    on_cycle h = record { link = h.there.link; within = h.there.within; there = h.there.there; back = Reaches-trans h.there.on (walk_reaches h.back) }

    turned : {a b : ℕ} → AreCyclic links a b → AreCyclic links b a
    turned h = record { there = h.back; back = h.there }

    same_number : {a b : ℕ} → AreCyclic links a b → number_in cycles a ≡ number_in cycles b
    same_number {a} {b} h =
        let here = numbered a (on_cycle h) in
        let there = numbered b (on_cycle (turned h)) in
        ⊎_elim (λ before. absurd (cyclic.ahead (number_in cycles a) (number_in cycles b) [] before there a b (in_numbered a here) (in_numbered b there) (both_ways d (walk_reaches h.back) (walk_reaches h.there))))
        (λ not_before. ⊎_elim (λ after. absurd (cyclic.ahead (number_in cycles b) (number_in cycles a) [] after here b a (in_numbered b there) (in_numbered a here) (both_ways d (walk_reaches h.there) (walk_reaches h.back))))
        (λ not_after. omega (arith, not_before, not_after)) (cases_lt (number_in cycles b) (number_in cycles a))) (cases_lt (number_in cycles a) (number_in cycles b))

    cyclic_together : (a b : ℕ) → number_in cycles a < length cycles → number_in cycles a ≡ number_in cycles b → AreCyclic links a b
    cyclic_together a b lt same =
        let c = get_or cycles (number_in cycles a) [] in
        let a_in : Contains c a = in_numbered a lt in
        let b_in : Contains c b = subst (λ k. Contains (get_or cycles k []) b) (sym same) (in_numbered b (subst (λ k. k < length cycles) same lt)) in
        let mutual_ab : AreMutual links any_link a b = cyclic.mutual_inside (number_in cycles a) [] lt a b a_in b_in in
        let on : IsOnCycle links a = (cyclic.each a).0 (Contains-flat_map (λ (e : List ℕ). e) cycles c a (Contains-get_or cycles (number_in cycles a) [] lt) a_in) in
        record {
          there = record { link = on.link; within = on.within; there = on.there; on = Reaches-trans on.back mutual_ab.there };
          back = record { link = on.link; within = on.within; there = Reaches-trans mutual_ab.back on.there; on = on.back };
        }

    number_is : {n : ℕ} {numbers : List ℕ} (v : ℕ) → AreNumbers n cycles 0 numbers → v < n → get_or numbers v 0 ≡ number_in cycles v
    number_is {n} {numbers} v are lt = let e = are.each v lt in omega (arith, e)

    cyclic_iff : (n : ℕ) (numbers : List ℕ) (a b : ℕ) → AreNumbers n cycles 0 numbers → a < n → b < n → ((get_or numbers a 0 < length cycles) × (get_or numbers a 0 ≡ get_or numbers b 0)) ↔ AreCyclic links a b
    cyclic_iff n numbers a b are a_lt b_lt = (
      λ h. cyclic_together a b (subst (λ k. k < length cycles) (number_is a are a_lt) h.0) (sym (number_is a are a_lt) ∙ h.1 ∙ number_is b are b_lt),
      λ h. (subst (λ k. k < length cycles) (sym (number_is a are a_lt)) (numbered a (on_cycle h)), number_is a are a_lt ∙ same_number h ∙ sym (number_is b are b_lt)),
    )

-- the number that was read of the one node, and that of the other, say whether they are on one cycle
module _ (numbers : List ℕ) (lists : List (List ℕ)) (v : NumberedCyclesValue) (is : record { nodes = length numbers; cycles = lists } ≡ v) {a b : ℕ} (within : (a < v.nodes) × (b < v.nodes)) where
  small : (a < length numbers) × (b < length numbers)
  small = subst (λ (w : NumberedCyclesValue). (a < w.nodes) × (b < w.nodes)) (sym is) within

  pub says_cyclic : AreNumbers (length numbers) lists 0 numbers → (x : ℕ) → x ≡ get_or numbers a x → {d : Direction} {links : List Link} → AreCycles d links v.cycles → ((x < length lists) × (x ≡ get_or numbers b 0)) ↔ AreCyclic links a b
  says_cyclic are x read {d} {links} cyclic =
      let here : AreCycles d links lists = subst (λ (w : NumberedCyclesValue). AreCycles d links w.cycles) (sym is) cyclic in
      subst (λ n. ((n < length lists) × (n ≡ get_or numbers b 0)) ↔ AreCyclic links a b) (sym (read ∙ get_or_default numbers a x 0 small.0)) (cyclic_iff here (length numbers) numbers a b are small.0 small.1)

  pub other_is : (y : ℕ) → y ≡ get_or numbers b y → y ≡ get_or numbers b 0
  other_is y read = read ∙ get_or_default numbers b y 0 small.1

-- one list more, before the others
pub numbers_more : (n : ℕ) (lists : List (List ℕ)) (at : ℕ) (old new : List ℕ) (list : List ℕ) → at < length lists → list ≡ get_or lists at list → AreNumbers n lists (suc at) old → length new ≡ length old → ((v : ℕ) → v < length old → get_or new v 0 ≡ (if has_node v list then at else get_or old v 0)) → AreNumbers n lists at new
numbers_more n lists at old new list lt is was sized each = record {
  sized = sized ∙ was.sized;
  each = λ v v_lt.
      each v (subst (λ m. v < m) (sym was.sized) v_lt)
      ∙ ap (λ k. if has_node v list then at else k) (was.each v v_lt)
      ∙ first_or_later (has_node v list) at (position_or_len (has_node v) (drop (suc at) lists))
      ∙ ap (λ (l : List ℕ). at + (if has_node v l then 0 else (1 + position_or_len (has_node v) (drop (suc at) lists)))) is
      ∙ ap (λ k. at + k) (first_of (has_node v) (get_or lists at list) (drop (suc at) lists) ∙ ap (position_or_len (has_node v)) (sym (drop-cons lists at list lt)));
}
  where
    first_by : (b : Bool) (k : ℕ) → (if b then 0 else (1 + k)) ≡ cond (not b) (1 + k) 0
    first_by true k = refl
    first_by false k = refl

    first_of : (p : List ℕ → Bool) (x : List ℕ) (xs : List (List ℕ)) → (if p x then 0 else (1 + position_or_len p xs)) ≡ position_or_len p (x ∷ xs)
    first_of p x xs = first_by (p x) (position_or_len p xs)

    first_or_later : (b : Bool) (k later : ℕ) → (if b then k else (suc k + later)) ≡ k + (if b then 0 else (1 + later))
    first_or_later true k later = omega arith
    first_or_later false k later = omega arith
