-- What stands in a text where a word stands in it.
use Rattle.std.proofs.Common.{◌≡◌, ℕ, ◌+◌, ◌-◌, Bool, true, false, not, ◌&&◌, ◌||◌, List, [], ◌∷◌, ◌++◌, length, nat_eq, nat_lt, inl, inr, refl, sym, ◌∙◌, ap, subst, arith, add-zero, append_assoc}
use Rattle.std.proofs.lemmas.Bool.{and_parts, and_from, and_left, and_right, or_cases, false≢true, not-true, not_from_false, lt-ltb, eq-eqb, eqb-true}
use Rattle.std.proofs.lemmas.List.{length-append}
use Rattle.std.proofs.Math.Seq.{get_or-append_seam}
use Rattle.nextest_filter_tokens.specs.Bytes.{blank_length, blanks_from, byte, has_whole_word, has_word, is_byte, is_word_end, skip}
use Rattle.nextest_filter_tokens.proofs.BlankFacts.{blanks_from-more, blanks_from-none, byte_within}
use Rattle.nextest_filter_syntax.specs.LeafGrammar.{Stands}

-- two words differ at a place that both have
abbrev pub clash : List ℕ → List ℕ → Bool
clash (c ∷ known) (d ∷ word) = not (nat_eq c d) || clash known word
clash _ _ = false

-- no blank and no beginning of one
abbrev pub is_solid : ℕ → Bool
is_solid c = not (nat_eq c 32) && (not (nat_eq c 10) && not (nat_eq c 13))

module _ (text : List ℕ) where
  pub first_part : (xs ys : List ℕ) (i : ℕ) → has_word text i (xs ++ ys) ≡ true → has_word text i xs ≡ true
  first_part [] ys i h = refl
  first_part (c ∷ xs) ys i h =
      let parts = and_parts (is_byte text i c) _ h in
      and_from _ _ parts.0 (first_part xs ys (i + 1) parts.1)

  pub second_part : (xs ys : List ℕ) (i : ℕ) → has_word text i (xs ++ ys) ≡ true → has_word text (i + length xs) ys ≡ true
  second_part [] ys i h = subst (λ k. has_word text k ys ≡ true) (sym (add-zero i)) h
  second_part (c ∷ xs) ys i h =
      let same : (i + 1) + length xs ≡ i + length (c ∷ xs) = omega arith in
      subst (λ k. has_word text k ys ≡ true) same (second_part xs ys (i + 1) (and_parts (is_byte text i c) _ h).1)

  pub first_byte : (c : ℕ) (xs : List ℕ) (i : ℕ) → has_word text i (c ∷ xs) ≡ true → is_byte text i c ≡ true
  first_byte c xs i h = (and_parts (is_byte text i c) _ h).0

  pub rest_word : (c : ℕ) (xs : List ℕ) (i : ℕ) → has_word text i (c ∷ xs) ≡ true → has_word text (i + 1) xs ≡ true
  rest_word c xs i h = (and_parts (is_byte text i c) _ h).1

  pub byte_is : (i c : ℕ) → is_byte text i c ≡ true → byte text i ≡ c
  byte_is i c h = eqb-true (byte text i) c (and_parts _ _ h).1

  pub other_byte : (i c d : ℕ) → is_byte text i c ≡ true → nat_eq c d ≡ false → is_byte text i d ≡ false
  other_byte i c d h differ =
      and_right (nat_lt i (length text)) _ (ap (λ b. nat_eq b d) (byte_is i c h) ∙ differ)

  -- another word does not stand there
  pub other_word : (known word : List ℕ) (i : ℕ) → has_word text i known ≡ true → clash known word ≡ true → has_word text i word ≡ false
  other_word [] word i h differ = absurd (false≢true differ)
  other_word (c ∷ known) [] i h differ = absurd (false≢true differ)
  other_word (c ∷ known) (d ∷ word) i h differ =
      let parts = and_parts (is_byte text i c) _ h in
      elim (or_cases (not (nat_eq c d)) (clash known word) differ) [
        | inl here ↦ and_left _ _ (other_byte i c d parts.0 (not-true _ here))
        | inr there ↦ and_right (is_byte text i d) _ (other_word known word (i + 1) parts.1 there)
      ]

  pub other_whole : (known word : List ℕ) (i : ℕ) → has_word text i known ≡ true → clash known word ≡ true → has_whole_word text i word ≡ false
  other_whole known word i h differ = and_left _ _ (other_word known word i h differ)

  -- a word with a space after it
  pub whole_word : (word : List ℕ) (i : ℕ) → has_word text i (word ++ 32 ∷ []) ≡ true → has_whole_word text i word ≡ true
  whole_word word i h =
      let space = byte_is (i + length word) 32 (first_byte 32 [] (i + length word) (second_part word (32 ∷ []) i h)) in
      let ends : is_word_end text (i + length word) ≡ true = rw space (not_from_false _ (and_right (nat_lt (i + length word) (length text)) false refl)) in
      and_from _ _ (first_part word (32 ∷ []) i h) ends

  -- where no blank stands, none is passed
  solid_length : (i c : ℕ) → is_byte text i c ≡ true → is_solid c ≡ true → blank_length text i ≡ 0
  unfolding blank_length
  solid_length i c h solid =
      let parts = and_parts (not (nat_eq c 32)) _ solid in
      let more = and_parts (not (nat_eq c 10)) _ parts.1 in
      rw (other_byte i c 32 h (not-true _ parts.0), other_byte i c 10 h (not-true _ more.0), other_byte i c 13 h (not-true _ more.1)) refl

  pub skip_none : (i c : ℕ) → is_byte text i c ≡ true → is_solid c ≡ true → skip text i ≡ i
  unfolding skip
  skip_none i c h solid = blanks_from-none text (length text) i (solid_length i c h solid)

  space_length : (i : ℕ) → is_byte text i 32 ≡ true → blank_length text i ≡ 1
  unfolding blank_length
  space_length i h = rw h refl

  -- one space is passed
  pub skip_one : (i c : ℕ) → is_byte text i 32 ≡ true → is_byte text (i + 1) c ≡ true → is_solid c ≡ true → skip text i ≡ i + 1
  unfolding skip
  skip_one i c space next solid =
      let one = space_length i space in
      let within = byte_within text i 32 space in
      blanks_from-more text (length text) i (omega arith) (λ e. omega (arith, one, e)) ∙ ap (λ n. blanks_from text (length text - 1) (i + n)) one ∙ blanks_from-none text (length text - 1) (i + 1) (solid_length (i + 1) c next solid)

  pub stands_here : (i c : ℕ) → is_byte text i c ≡ true → is_solid c ≡ true → Stands text i c (i + 1)
  stands_here i c h solid =
      let none = skip_none i c h solid in
      (subst (λ k. is_byte text k c ≡ true) (sym none) h, ap (λ k. k + 1) (sym none))

front_byte : (front : List ℕ) (x : ℕ) (xs : List ℕ) → is_byte (front ++ x ∷ xs) (length front) x ≡ true
front_byte front x xs =
    and_from _ _ (lt-ltb (length front) _ (omega (arith, length-append front (x ∷ xs)))) (eq-eqb _ x (get_or-append_seam front x xs 0))

-- a text stands at its own beginning
word_after : (front xs : List ℕ) → has_word (front ++ xs) (length front) xs ≡ true
word_after front [] = refl
word_after front (x ∷ xs) =
    let here = front_byte front x xs in
    let same : (front ++ x ∷ []) ++ xs ≡ front ++ (x ∷ xs) = append_assoc front (x ∷ []) xs in
    let size : length (front ++ x ∷ []) ≡ length front + 1 = length-append front (x ∷ []) in
    and_from _ _ here (subst (λ t. has_word t (length front + 1) xs ≡ true) same (subst (λ k. has_word ((front ++ x ∷ []) ++ xs) k xs ≡ true) size (word_after (front ++ x ∷ []) xs)))

pub whole_text : (xs : List ℕ) → has_word xs 0 xs ≡ true
whole_text xs = word_after [] xs
