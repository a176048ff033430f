-- Where no operator stands.
use Rattle.std.proofs.Common.{◌≡◌, ℕ, zero, suc, ◌<◌, Bool, true, false, List, length, nat_eq, nat_lt, refl, sym, ◌∙◌, ap, inl, inr, arith}
use Rattle.std.proofs.lemmas.Bool.{and_parts, cases_Bool, eqb-true, false≢true, ltb-true, false_from_ne_true}
use Rattle.nextest_filter_tokens.specs.Bytes.{byte, is_byte, skip}
use Rattle.nextest_filter_tokens.specs.Operators.{and_at, or_at}
use Rattle.nextest_filter_tokens.specs.declared.operators.Operator.{Operator}
use Rattle.nextest_filter_tokens.specs.declared.operators.Found.{Found}
use Rattle.nextest_filter_tokens.specs.declared.operators.Found.TheVariants.{Nothing, Joins}
use Rattle.nextest_filter_syntax.specs.Grammar.{found_at}
use Rattle.nextest_filter_syntax.specs.Reading.{Ends}

abbrev is_joining : Found → Bool
is_joining (Joins op m) = true
is_joining _ = false

nothing_joins : (op : Operator) (m : ℕ) → Nothing ≡ Joins op m → ⊥
nothing_joins op m e = false≢true (ap is_joining e)

module _ (text : List ℕ) where
  -- where one byte stands, no other does
  other_byte : (i c d : ℕ) → nat_eq c d ≡ false → is_byte text i c ≡ true → is_byte text i d ≡ false
  other_byte i c d other h =
      let inside = (and_parts (nat_lt i (length text)) (nat_eq (byte text i) c) h).0 in
      let at = eqb-true (byte text i) c (and_parts (nat_lt i (length text)) (nat_eq (byte text i) c) h).1 in
      rw (inside, at, other) refl

  -- past the end no byte stands
  no_byte : (i c : ℕ) → i ≡ length text → is_byte text i c ≡ false
  no_byte i c end =
      false_from_ne_true _ (λ h.
      let lt = ltb-true i (length text) (and_parts (nat_lt i (length text)) (nat_eq (byte text i) c) h).0 in
      absurd (omega arith))

  and_none : (i : ℕ) → is_byte text i 38 ≡ false → is_byte text i 65 ≡ false → is_byte text i 97 ≡ false → is_byte text i 45 ≡ false → and_at text i ≡ Nothing
  unfolding and_at
  and_none i a b c d = rw (a, b, c, d) refl

  or_none : (i : ℕ) → is_byte text i 124 ≡ false → is_byte text i 79 ≡ false → is_byte text i 111 ≡ false → is_byte text i 43 ≡ false → or_at text i ≡ Nothing
  unfolding or_at
  or_none i a b c d = rw (a, b, c, d) refl

  no_and : (i c : ℕ) → nat_eq c 38 ≡ false → nat_eq c 65 ≡ false → nat_eq c 97 ≡ false → nat_eq c 45 ≡ false → is_byte text i c ≡ true → and_at text i ≡ Nothing
  no_and i c w x y z h =
      and_none i (other_byte i c 38 w h) (other_byte i c 65 x h) (other_byte i c 97 y h) (other_byte i c 45 z h)

  -- no operator stands where a parenthesis closes
  pub close_ends : (i level : ℕ) → is_byte text (skip text i) 41 ≡ true → Ends text level i
  close_ends i level h zero lt = no_and (skip text i) 41 refl refl refl refl h
  close_ends i level h (suc zero) lt =
      or_none (skip text i) (other_byte (skip text i) 41 124 refl h) (other_byte (skip text i) 41 79 refl h) (other_byte (skip text i) 41 111 refl h) (other_byte (skip text i) 41 43 refl h)
  close_ends i level h (suc (suc k)) lt = refl

  -- nor where the text ends
  pub whole_ends : (i level : ℕ) → skip text i ≡ length text → Ends text level i
  whole_ends i level h zero lt =
      and_none (skip text i) (no_byte (skip text i) 38 h) (no_byte (skip text i) 65 h) (no_byte (skip text i) 97 h) (no_byte (skip text i) 45 h)
  whole_ends i level h (suc zero) lt =
      or_none (skip text i) (no_byte (skip text i) 124 h) (no_byte (skip text i) 79 h) (no_byte (skip text i) 111 h) (no_byte (skip text i) 43 h)
  whole_ends i level h (suc (suc k)) lt = refl

  -- where an operator of unions stands, no other does
  or_alone : (i : ℕ) (op : Operator) (m : ℕ) → or_at text i ≡ Joins op m → and_at text i ≡ Nothing
  or_alone i op m right =
      elim (cases_Bool (is_byte text i 124)) [
        | inl h ↦ no_and i 124 refl refl refl refl h
        | inr a ↦
            elim (cases_Bool (is_byte text i 79)) [
              | inl h ↦ no_and i 79 refl refl refl refl h
              | inr b ↦
                  elim (cases_Bool (is_byte text i 111)) [
                    | inl h ↦ no_and i 111 refl refl refl refl h
                    | inr c ↦
                        elim (cases_Bool (is_byte text i 43)) [
                          | inl h ↦ no_and i 43 refl refl refl refl h
                          | inr d ↦ absurd (nothing_joins op m (sym (or_none i a b c d) ∙ right))
                        ]
                  ]
            ]
      ]

  pub lower_none : (level k i : ℕ) (op : Operator) (m : ℕ) → k < level → found_at text level i ≡ Joins op m → found_at text k i ≡ Nothing
  lower_none zero k i op m lt right = absurd (omega arith)
  lower_none (suc zero) zero i op m lt right = or_alone i op m right
  lower_none (suc zero) (suc k) i op m lt right = absurd (omega arith)
  lower_none (suc (suc level)) k i op m lt right = absurd (nothing_joins op m right)
