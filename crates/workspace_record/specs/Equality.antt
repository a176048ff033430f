-- Tests that answer true exactly at equal values, made of the tests of the parts.
use Rattle.std.specs.Prelude.{◌≡◌, ℕ, Bool, true, false, ◌&&◌, List, Some, None, nat_eq}
use Rattle.std.specs.Bool.{Decides}
use Rattle.std.specs.Option.{option_eq}
use Rattle.std.specs.Ordering.{on}
use Rattle.std.specs.Cmp.{IsEquivalence, first_so, second_so}
use Rattle.std.specs.Cmp.Lexicographic.{pointwise, pointwise_decides, bytes_decides}
use Rattle.std.proofs.Common.{refl, sym, ◌∙◌, ap}
use Rattle.std.proofs.lemmas.Bool.{false≢true}

-- the test answers true exactly at equal values
abbrev pub DecidesEquality : {X : Type 0} → (X → X → Bool) → Type 0
DecidesEquality {X} E = (x y : X) → Decides (E x y) (x ≡ y)

-- both parts are equal
abbrev pub pair_eq : {X Y : Type 0} → (X → X → Bool) → (Y → Y → Bool) → X × Y → X × Y → Bool
pair_eq E F p q = E p.0 q.0 && F p.1 q.1

-- two texts have the same bytes
abbrev pub text_eq : List ℕ → List ℕ → Bool
text_eq = pointwise nat_eq

pub texts_decide : DecidesEquality text_eq
texts_decide = bytes_decides

pub lists_decide : {X : Type 0} {E : X → X → Bool} → DecidesEquality E → DecidesEquality (pointwise E)
lists_decide d = pointwise_decides d

pub options_decide : {X : Type 0} {E : X → X → Bool} → DecidesEquality E → DecidesEquality (option_eq E)
options_decide d None None = (λ _. refl, λ _. refl)
options_decide d None (Some y) = (λ h. absurd (false≢true h), λ e. cc)
options_decide d (Some x) None = (λ h. absurd (false≢true h), λ e. cc)
options_decide d (Some x) (Some y) = (λ h. ap Some ((d x y).0 h), λ e. (d x y).1 cc)

both_true : (s t : Bool) → s ≡ true → t ≡ true → (s && t) ≡ true
both_true true t p q = q
both_true false t p q = p

pub pairs_decide : {X Y : Type 0} {E : X → X → Bool} {F : Y → Y → Bool} → DecidesEquality E → DecidesEquality F → DecidesEquality (pair_eq E F)
pairs_decide {E = E} {F = F} d e p q =
    (λ h. λ i. ((d p.0 q.0).0 (first_so (E p.0 q.0) (F p.1 q.1) h) i, (e p.1 q.1).0 (second_so (E p.0 q.0) (F p.1 q.1) h) i), λ r. both_true _ _ ((d p.0 q.0).1 (ap (λ w. w.0) r)) ((e p.1 q.1).1 (ap (λ w. w.1) r)))

-- a test by parts that give the whole back decides equality where the parts' test does
pub decide_by : {X Y : Type 0} {E : Y → Y → Bool} (parts : X → Y) (whole : Y → X) → ((x : X) → whole (parts x) ≡ x) → DecidesEquality E → DecidesEquality (on parts E)
decide_by parts whole back d x y =
    (λ h. sym (back x) ∙ ap whole ((d (parts x) (parts y)).0 h) ∙ back y, λ p. (d (parts x) (parts y)).1 (ap parts p))

either_way : (s t : Bool) → (s ≡ true → t ≡ true) → (t ≡ true → s ≡ true) → s ≡ t
either_way true t f g = sym (f refl)
either_way false true f g = g refl
either_way false false f g = refl

-- such a test is an equivalence
pub equivalence : {X : Type 0} {E : X → X → Bool} → DecidesEquality E → IsEquivalence E
equivalence {X = X} {E = E} d = record {
  refl = λ x. (d x x).1 refl;
  symm = λ x y. either_way (E x y) (E y x) (λ h. (d y x).1 (sym ((d x y).0 h))) (λ h. (d x y).1 (sym ((d y x).0 h)));
  congr = λ x y z h. ap (λ w. E w z) ((d x y).0 h);
}
