-- Formulas whose leaves say the same.
use mathlib.Core.Bool.{beq}
use Rattle.std.proofs.Common.{◌≡◌, ◌↔◌, ◌⊎◌, inl, inr, ⊎_elim, refl, sym, subst, true≢false, Bool, true, false, ◌||◌, not, ◌∙◌, IsTrue}
use Rattle.nextest_filter_evaluation.specs.Formulas.{Formula, negation, either, both, leaf, has_leaf, EachLeaf, Holds, SomeAnswersGive}

pub or_left : (a b : Bool) → (a || b) ≡ false → a ≡ false
or_left false b h = refl
or_left true b h = h

pub or_right : (a b : Bool) → (a || b) ≡ false → b ≡ false
or_right false b h = h
or_right true b h = absurd (true≢false h)

pub or_first : (a b : Bool) → a ≡ true → (a || b) ≡ true
or_first true b h = refl
or_first false b h = absurd (true≢false (sym h))

pub or_second : (a b : Bool) → b ≡ true → (a || b) ≡ true
or_second true b h = refl
or_second false b h = h

-- a value, or its opposite
abbrev pub turned : Bool → Bool → Bool
turned true b = not b
turned false b = b

-- what a negation says, and what two parts say of which one or each is asked
pub says_not : (b : Bool) (P : Type 0) → IsTrue b ↔ P → IsTrue (not b) ↔ (P → ⊥)
says_not true P h = (λ e. absurd (true≢false (sym e)), λ n. absurd (n (h.0 refl)))
says_not false P h = (λ _ p. true≢false (sym (h.1 p)), λ _. refl)

says_out : (b : Bool) (P : Type 0) → IsTrue b ↔ P → b ≡ false → P → ⊥
says_out b P h e p = true≢false (sym (h.1 p) ∙ e)

turned_not : (n b : Bool) → turned (not n) b ≡ turned n (not b)
turned_not true true = refl
turned_not true false = refl
turned_not false b = refl

turned_true : (n : Bool) → turned n true ≡ not n
turned_true true = refl
turned_true false = refl

turned_false : (n : Bool) → turned n false ≡ n
turned_false true = refl
turned_false false = refl

turned_by_test : (n b : Bool) → not (beq b n) ≡ turned n b
turned_by_test true true = refl
turned_by_test true false = refl
turned_by_test false true = refl
turned_by_test false false = refl

-- a part's value, or its opposite, says whether the whole holds
abbrev pub SaysTurned : Bool → Type 0 → Type 0 → Type 0
SaysTurned n P W = (b : Bool) → IsTrue b ↔ P → IsTrue (turned n b) ↔ W

module _ (n : Bool) (W : Type 0) where
  pub turned_part : (P : Type 0) → SaysTurned n (P → ⊥) W → SaysTurned (not n) P W
  turned_part P h b k = subst (λ v. IsTrue v ↔ W) (sym (turned_not n b)) (h (not b) (says_not b P k))

  pub turned_leaf : (P : Type 0) (b : Bool) → SaysTurned n P W → IsTrue b ↔ P → IsTrue (not (beq b n)) ↔ W
  turned_leaf P b h k = subst (λ v. IsTrue v ↔ W) (sym (turned_by_test n b)) (h b k)

  module _ (P Q : Type 0) (y : Bool) (second : IsTrue y ↔ Q) where
    -- the second part that holds decides one of two, and so does one that does not hold of both
    pub turned_second : SaysTurned n (P ⊎ Q) W → y ≡ true → IsTrue (not n) ↔ W
    turned_second h e =
        subst (λ v. IsTrue v ↔ W) (turned_true n) (h true (λ _. inr (second.0 e), λ _. refl))

    pub turned_neither : SaysTurned n (P × Q) W → y ≡ false → IsTrue n ↔ W
    turned_neither h e =
        subst (λ v. IsTrue v ↔ W) (turned_false n) (h false (λ t. absurd (true≢false (sym t)), λ s. absurd (says_out y Q second e s.1)))

    -- else the first part decides
    pub turned_first_of_either : SaysTurned n (P ⊎ Q) W → y ≡ false → SaysTurned n P W
    turned_first_of_either h e b k =
        h b (λ t. inl (k.0 t), λ s. ⊎_elim k.1 (λ q. absurd (says_out y Q second e q)) s)

    pub turned_first_of_both : SaysTurned n (P × Q) W → y ≡ true → SaysTurned n P W
    turned_first_of_both h e b k = h b (λ t. (k.0 t, second.0 e), λ s. k.1 s.0)

module _ {L : Type 0} where
  pub either_same : {a b c d : Formula L} → a ≡ b → c ≡ d → either a c ≡ either b d
  either_same p q = cc

  pub both_same : {a b c d : Formula L} → a ≡ b → c ≡ d → both a c ≡ both b d
  both_same p q = cc

  pub each_of : (rule : L → Type 0) (f : Formula L) → ((l : L) → rule l) → EachLeaf rule f
  each_of rule (negation a) h = each_of rule a h
  each_of rule (either a b) h = (each_of rule a h, each_of rule b h)
  each_of rule (both a b) h = (each_of rule a h, each_of rule b h)
  each_of rule (leaf l) h = h l

  pub each_map : (rule other : L → Type 0) (f : Formula L) → ((l : L) → rule l → other l) → EachLeaf rule f → EachLeaf other f
  each_map rule other (negation a) h e = each_map rule other a h e
  each_map rule other (either a b) h e = (each_map rule other a h e.0, each_map rule other b h e.1)
  each_map rule other (both a b) h e = (each_map rule other a h e.0, each_map rule other b h e.1)
  each_map rule other (leaf l) h e = h l e

  pub each_without : (test : L → Bool) (f : Formula L) → has_leaf test f ≡ false → EachLeaf (λ l. test l ≡ false) f
  each_without test (negation a) h = each_without test a h
  each_without test (either a b) h = (each_without test a (or_left _ _ h), each_without test b (or_right _ _ h))
  each_without test (both a b) h = (each_without test a (or_left _ _ h), each_without test b (or_right _ _ h))
  each_without test (leaf l) h = h

  -- what holds where a leaf passes may be said at each leaf that does
  pub each_if : (test : L → Bool) (X : Type 0) (f : Formula L) → (has_leaf test f ≡ true → X) → EachLeaf (λ l. test l ≡ true → X) f
  each_if test X (negation a) h = each_if test X a h
  each_if test X (either a b) h = (each_if test X a (λ e. h (or_first _ _ e)), each_if test X b (λ e. h (or_second _ _ e)))
  each_if test X (both a b) h = (each_if test X a (λ e. h (or_first _ _ e)), each_if test X b (λ e. h (or_second _ _ e)))
  each_if test X (leaf l) h = h

  pub holds_alike : (P Q : L → Type 0) (f : Formula L) → EachLeaf (λ l. P l ↔ Q l) f → Holds P f ↔ Holds Q f
  holds_alike P Q (negation a) e = let h = holds_alike P Q a e in (λ n x. n (h.1 x), λ n x. n (h.0 x))
  holds_alike P Q (either a b) e =
      let h = holds_alike P Q a e.0 in
      let k = holds_alike P Q b e.1 in
      (λ s. ⊎_elim (λ x. inl (h.0 x)) (λ y. inr (k.0 y)) s, λ s. ⊎_elim (λ x. inl (h.1 x)) (λ y. inr (k.1 y)) s)
  holds_alike P Q (both a b) e =
      let h = holds_alike P Q a e.0 in
      let k = holds_alike P Q b e.1 in
      (λ s. (h.0 s.0, k.0 s.1), λ s. (h.1 s.0, k.1 s.1))
  holds_alike P Q (leaf l) e = e

  pub gives_alike : (P Q : L → Bool → Type 0) (f : Formula L) → EachLeaf (λ l. (v : Bool) → P l v ↔ Q l v) f → (v : Bool) → SomeAnswersGive P f v ↔ SomeAnswersGive Q f v
  gives_alike P Q (negation a) e v = gives_alike P Q a e (not v)
  gives_alike P Q (either a b) e v =
      let h = gives_alike P Q a e.0 in
      let k = gives_alike P Q b e.1 in
      (λ s. (s.0, s.1, (h s.0).0 s.2, (k s.1).0 s.3, s.4), λ s. (s.0, s.1, (h s.0).1 s.2, (k s.1).1 s.3, s.4))
  gives_alike P Q (both a b) e v =
      let h = gives_alike P Q a e.0 in
      let k = gives_alike P Q b e.1 in
      (λ s. (s.0, s.1, (h s.0).0 s.2, (k s.1).0 s.3, s.4), λ s. (s.0, s.1, (h s.0).1 s.2, (k s.1).1 s.3, s.4))
  gives_alike P Q (leaf l) e v = e v
