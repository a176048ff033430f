-- Lists some element of which passes.
use Rattle.std.proofs.Common.{◌≡◌, ◌∙◌, ◌↔◌, refl, sym, subst, true≢false, ⊎_elim, Bool, true, false, List, ◌∷◌, Contains, IsTrue, Result, Ok, Err, IfOk}
use Rattle.list_facts.proofs.Membership.{Contains-first, Contains-rest, Contains-cons_cases}

module _ {X : Type 0} (P : X → Type 0) where
  abbrev Some : List X → Type 0
  Some xs = (x : X) × Contains xs x × P x

  -- an element that does not pass is passed over
  pub some_later : (all left rest : List X) (x : X) (b : Bool) → left ≡ x ∷ rest → (IsTrue b ↔ P x) → b ≡ false → Some all ↔ Some left → Some all ↔ Some rest
  some_later all left rest x b steps says is_false was =
      let out : P x → ⊥ = λ p. true≢false (sym (says.1 p) ∙ is_false) in
      let here : Some all ↔ Some (x ∷ rest) = subst (λ ys. Some all ↔ Some ys) steps was in (
        λ s. let h = here.0 s in ⊎_elim (λ e. absurd (out (subst P (sym e) h.2))) (λ r. (h.0, r, h.2)) (Contains-cons_cases x rest h.0 h.1),
        λ s. here.1 (s.0, Contains-rest x rest s.0 s.1, s.2),
      )

  -- one that passes is some element
  pub some_first : (all left rest : List X) (x : X) (b : Bool) → left ≡ x ∷ rest → (IsTrue b ↔ P x) → IsTrue b → Some all ↔ Some left → IsTrue true ↔ Some all
  some_first all left rest x b steps says is_true was =
      (λ _. was.1 (subst Some (sym steps) (x, Contains-first x rest, says.0 is_true)), λ _. refl)

-- where the one holds, both do exactly if the other does
pub both_if : {E : Type 0} (P Q : Type 0) (b : Bool) (r : Result Bool E) → (IsTrue b ↔ Q) → IsTrue b → IfOk r (λ x. IsTrue x ↔ P) → IfOk r (λ x. IsTrue x ↔ (P × Q))
both_if P Q b (Ok x) says is_true h = (λ t. (h.0 t, says.0 is_true), λ s. h.1 s.0)
both_if P Q b (Err e) says is_true h = h
