-- One who is asked about nodes is asked about one node more.
use Rattle.std.proofs.Common.{◌≡◌, ◌↔◌, ◌⊎◌, ⊎_elim, inl, inr, ℕ, zero, suc, ◌<◌, Bool, true, false, not, true≢false, replicate, List, [], ◌∷◌, ◌++◌, refl, sym, subst, ap, ◌∙◌, append-nil, append_assoc, length, map, All, Contains, IsTrue}
use Rattle.std.proofs.lemmas.List.{map-append}
use Rattle.std.proofs.lemmas.List.Elements.{All-tail, Contains-append_left, Contains-push, Contains-push_cases}
use Rattle.list_facts.proofs.Membership.{Contains-none}
use Rattle.numbered_graph.specs.Asking.{Chain}
use Rattle.numbered_graph.specs.Sets.{has}

pub Chain-push : {S X A : Type 0} (R : S → X → A → S → Type 0) (xs : List (X × A)) (s m t : S) (x : X) (b : A) → Chain R s xs m → R m x b t → Chain R s (xs ++ (x, b) ∷ []) t
Chain-push R [] s m t x b e step = (t, subst (λ p. R p x b t) e step, refl)
Chain-push R (o ∷ xs) s m t x b (n, first, rest) step = (n, first, Chain-push R xs n m t x b rest step)

-- the flags are those of the nodes that were answered so
abbrev pub HasAnswered : {A : Type 0} → List (ℕ × A) → A → List Bool → Type 0
HasAnswered asked a flags = (v : ℕ) → IsTrue (has flags v) ↔ Contains asked (v, a)

-- a set of no node
pub none_has : (n v : ℕ) → IsTrue (has (replicate n false) v) → ⊥
none_has zero v h = true≢false (sym h)
none_has (suc n) zero h = true≢false (sym h)
none_has (suc n) (suc v) h = none_has n v h

-- an answer is false where its opposite is true
pub refused : (b : Bool) → IsTrue (not b) ↔ (b ≡ false)
refused true = (λ h. absurd (true≢false (sym h)), λ h. absurd (true≢false h))
refused false = (λ h. refl, λ h. refl)

-- part of the nodes was asked about, in their order, and the flags are those of the nodes that were answered so
pub record IsChoosing {S A : Type 0} (asks : S → ℕ → A → S → Type 0) (order : List ℕ) (nodes : ℕ) (first : S) (left : List ℕ) (last : S) (a b : A) (one two : List Bool) : Type 0 where
  pub asked : List (ℕ × A)
  pub each : map (λ o. o.0) asked ++ left ≡ order
  pub chain : Chain asks first asked last
  pub has_one : HasAnswered asked a one
  pub has_two : HasAnswered asked b two
  pub one_sized : length one ≡ nodes
  pub two_sized : length two ≡ nodes
  pub within : All (λ v. v < nodes) left

-- a node was put in where the answer was this one
pub put : {A : Type 0} (asked : List (ℕ × A)) (v : ℕ) (answer a : A) (wanted : Bool) (before after : List Bool) → (IsTrue wanted ↔ (answer ≡ a)) → ((w : ℕ) → IsTrue (has after w) ↔ (IsTrue (has before w) ⊎ (IsTrue wanted × (w ≡ v)))) → HasAnswered asked a before → HasAnswered (asked ++ (v, answer) ∷ []) a after
put {A} asked v answer a wanted before after same members had w = (
  λ h. ⊎_elim (λ was. Contains-append_left asked ((v, answer) ∷ []) (w, a) ((had w).0 was)) (λ now. subst (λ (o : ℕ × A). Contains (asked ++ (v, answer) ∷ []) o) (ap (λ x. (v, x)) (same.0 now.0) ∙ ap (λ x. (x, a)) (sym now.1)) (Contains-push asked (v, answer))) ((members w).0 h),
  λ h. (members w).1 (⊎_elim (λ was. inl ((had w).1 was)) (λ is. inr (same.1 (ap (λ (o : ℕ × A). o.1) is), sym (ap (λ (o : ℕ × A). o.0) is))) (Contains-push_cases asked (v, answer) (w, a) h)),
)

module _ {S A : Type 0} {asks : S → ℕ → A → S → Type 0} {order : List ℕ} {nodes : ℕ} {first : S} where
  -- nothing was asked yet
  pub choosing_none : (left : List ℕ) (a b : A) (one two : List Bool) → left ≡ order → ((v : ℕ) → IsTrue (has one v) → ⊥) → ((v : ℕ) → IsTrue (has two v) → ⊥) → length one ≡ nodes → length two ≡ nodes → All (λ v. v < nodes) left → IsChoosing asks order nodes first left first a b one two
  choosing_none left a b one two is clear_one clear_two one_sized two_sized within = record {
    asked = [];
    each = is;
    chain = refl;
    has_one = λ v. (λ h. absurd (clear_one v h), λ h. absurd (Contains-none (v, a) h));
    has_two = λ v. (λ h. absurd (clear_two v h), λ h. absurd (Contains-none (v, b) h));
    one_sized = one_sized;
    two_sized = two_sized;
    within = within;
  }

  pub choosing_more : (v : ℕ) (before after : List ℕ) (middle last : S) (a b answer : A) (wants_one wants_two : Bool) (one two new_one new_two : List Bool) → before ≡ v ∷ after → IsChoosing asks order nodes first before middle a b one two → asks middle v answer last → (IsTrue wants_one ↔ (answer ≡ a)) → (IsTrue wants_two ↔ (answer ≡ b)) → length new_one ≡ length one → length new_two ≡ length two → ((w : ℕ) → IsTrue (has new_one w) ↔ (IsTrue (has one w) ⊎ (IsTrue wants_one × (w ≡ v)))) → ((w : ℕ) → IsTrue (has new_two w) ↔ (IsTrue (has two w) ⊎ (IsTrue wants_two × (w ≡ v)))) → IsChoosing asks order nodes first after last a b new_one new_two
  choosing_more v before after middle last a b answer wants_one wants_two one two new_one new_two is was asked same_one same_two size_one size_two put_one put_two = record {
    asked = was.asked ++ (v, answer) ∷ [];
    each = ap (λ xs. xs ++ after) (map-append (λ (o : ℕ × A). o.0) was.asked ((v, answer) ∷ [])) ∙ append_assoc (map (λ (o : ℕ × A). o.0) was.asked) (v ∷ []) after ∙ ap (λ xs. map (λ (o : ℕ × A). o.0) was.asked ++ xs) (sym is) ∙ was.each;
    chain = Chain-push asks was.asked first middle last v answer was.chain asked;
    has_one = put was.asked v answer a wants_one one new_one same_one put_one was.has_one;
    has_two = put was.asked v answer b wants_two two new_two same_two put_two was.has_two;
    one_sized = size_one ∙ was.one_sized;
    two_sized = size_two ∙ was.two_sized;
    within = All-tail (λ w. w < nodes) v after (subst (All (λ w. w < nodes)) is was.within);
  }

  -- all were asked about
  pub each_asked : {last : S} {a b : A} {one two : List Bool} (left : List ℕ) → left ≡ [] → (was : IsChoosing asks order nodes first left last a b one two) → map (λ (o : ℕ × A). o.0) was.asked ≡ order
  each_asked left none was = sym (append-nil (map (λ (o : ℕ × A). o.0) was.asked)) ∙ ap (λ xs. map (λ (o : ℕ × A). o.0) was.asked ++ xs) (sym none) ∙ was.each
