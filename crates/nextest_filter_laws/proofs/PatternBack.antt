-- A pattern reads back from what is printed of it.
use Rattle.std.proofs.Common.{◌≡◌, ℕ, suc, ◌+◌, ◌<◌, ◌≤◌, Bool, true, false, not, ◌&&◌, List, [], ◌∷◌, ◌++◌, length, codes, get_or, nat_eq, inl, inr, refl, sym, ◌∙◌, ap, subst, arith, add-zero, append-nil}
use Rattle.std.proofs.lemmas.Bool.{and_parts, and_from, and_left, and_right, not_from_false, cases_lt, cases_eq, true≢false, lt-ltb, eq-eqb, ne_eqb, or_parts}
use Rattle.std.proofs.lemmas.List.{length-append}
use Rattle.std.proofs.lemmas.Str.{encode_ascii, inside_one, len_utf8_bounds, length-encode}
use Rattle.std.proofs.Math.Utf8.{encodes}
use Rattle.std.specs.Char.{encode_utf8}
use Rattle.nextest_filter_matchers.specs.Printing.{pattern_character, printed_pattern}
use Rattle.nextest_filter_tokens.specs.Bytes.{has_word, is_byte}
use Rattle.nextest_filter_tokens.specs.Patterns.{ReadsPattern, closed, is_escaped_slash, is_pattern_byte, other, slash}
use Rattle.nextest_filter_tokens.proofs.BlankFacts.{byte_within}
use Rattle.nextest_filter_laws.specs.Printable.{ends_in_backslash, has_escaped_slash}
use Rattle.nextest_filter_laws.proofs.WordFacts.{byte_is, first_byte, first_part, other_byte, rest_word, second_part}

-- bytes that are no slashes and no backslashes
abbrev AreFree : List ℕ → Type 0
AreFree [] = Unit {0}
AreFree (b ∷ word) = (nat_eq b 47 ≡ false) × (nat_eq b 92 ≡ false) × AreFree word

high_free : (word : List ℕ) → ((k : ℕ) → k < length word → 128 ≤ get_or word k 0) → AreFree word
high_free [] h = tt
high_free (b ∷ word) h =
    let high : 128 ≤ b = h 0 (omega arith) in
    (ne_eqb b 47 (λ e. omega (arith, e, high)), ne_eqb b 92 (λ e. omega (arith, e, high)), high_free word (λ k below. h (suc k) (omega arith)))

-- the bytes of a character that is none of these
free_character : (c : ℕ) → nat_eq c 47 ≡ false → nat_eq c 92 ≡ false → AreFree (encode_utf8 c)
free_character c a b =
    elim (cases_lt c 128) [
      | inl small ↦ subst AreFree (sym (encode_ascii c small)) (a, b, tt)
      | inr big ↦ high_free (encode_utf8 c) (λ k below.
          elim (cases_lt (get_or (encode_utf8 c) k 0) 128) [
            | inl low ↦ absurd (omega (arith, big, low, inside_one c [] (encode_utf8 c) k (sym (append-nil _)) below low))
            | inr high ↦ high
          ])
    ]

-- a character has a byte at least
some_byte : (c : ℕ) → 0 < length (encode_utf8 c)
some_byte c = omega (arith, length-encode c, (len_utf8_bounds c).0)

module _ (text : List ℕ) where
  stands_for_itself : (i b : ℕ) → is_byte text i b ≡ true → nat_eq b 47 ≡ false → nat_eq b 92 ≡ false → is_pattern_byte text i ≡ true
  stands_for_itself i b h no_slash no_backslash =
      and_from _ _ (lt-ltb i (length text) (byte_within text i b h)) (and_from _ _ (not_from_false _ (other_byte text i b 47 h no_slash)) (not_from_false _ (and_left _ _ (other_byte text i b 92 h no_backslash))))

  -- a backslash before another byte than a slash
  lone_backslash : (i : ℕ) → is_byte text i 92 ≡ true → is_byte text (i + 1) 47 ≡ false → is_pattern_byte text i ≡ true
  lone_backslash i h next =
      and_from _ _ (lt-ltb i (length text) (byte_within text i 92 h)) (and_from _ _ (not_from_false _ (other_byte text i 92 47 h refl)) (not_from_false _ (and_right (is_byte text i 92) _ next)))

  byte_read : (i b : ℕ) (xs : List ℕ) (j : ℕ) → is_byte text i b ≡ true → is_pattern_byte text i ≡ true → ReadsPattern text (i + 1) xs j → ReadsPattern text i (b ∷ xs) j
  byte_read i b xs j h stands r = subst (λ c. ReadsPattern text i (c ∷ xs) j) (byte_is text i b h) (other stands r)

  free_read : (word : List ℕ) (i : ℕ) (xs : List ℕ) (j : ℕ) → AreFree word → has_word text i word ≡ true → ReadsPattern text (i + length word) xs j → ReadsPattern text i (word ++ xs) j
  free_read [] i xs j free h r = subst (λ k. ReadsPattern text k xs j) (add-zero i) r
  free_read (b ∷ word) i xs j free h r =
      let here = first_byte text b word i h in
      let same : i + length (b ∷ word) ≡ (i + 1) + length word = omega arith in
      byte_read i b (word ++ xs) j here (stands_for_itself i b here free.0 free.1) (free_read word (i + 1) xs j free.2 (rest_word text b word i h) (subst (λ k. ReadsPattern text k xs j) same r))

  -- no slash is the first byte of what is printed
  free_first : (word rest : List ℕ) (i : ℕ) → AreFree word → 0 < length word → has_word text i (word ++ rest) ≡ true → is_byte text i 47 ≡ false
  free_first [] rest i free some h = absurd (omega arith)
  free_first (b ∷ word) rest i free some h = other_byte text i b 47 (and_parts (is_byte text i b) _ h).0 free.0

  no_slash_first : (escaped : Bool) (c : ℕ) (cs : List ℕ) (i : ℕ) → has_escaped_slash escaped (c ∷ cs) ≡ false → has_word text i (printed_pattern escaped (c ∷ cs)) ≡ true → is_byte text i 47 ≡ false
  no_slash_first escaped c cs i clear h =
      elim (cases_eq c 47) [
        | inl is ↦
            let here : nat_eq c 47 ≡ true = eq-eqb c 47 is in
            let free : escaped ≡ false = rw here at (or_parts (nat_eq c 47 && escaped) _ clear).0 in
            let printed : pattern_character escaped c ≡ codes "\\/" = rw (here, free) refl in
            other_byte text i 92 47 (and_parts (is_byte text i 92) _ (subst (λ w. has_word text i (w ++ printed_pattern (nat_eq c 92 && not escaped) cs) ≡ true) printed h)).0 refl
        | inr not_slash ↦
            let printed : pattern_character escaped c ≡ encode_utf8 c = rw (ne_eqb c 47 not_slash) refl in
            let word = subst (λ w. has_word text i (w ++ printed_pattern (nat_eq c 92 && not escaped) cs) ≡ true) printed h in
            elim (cases_eq c 92) [
              | inl is ↦
                  let bytes : encode_utf8 c ≡ 92 ∷ [] = ap encode_utf8 is ∙ encode_ascii 92 (omega arith) in
                  other_byte text i 92 47 (and_parts (is_byte text i 92) _ (subst (λ w. has_word text i (w ++ printed_pattern (nat_eq c 92 && not escaped) cs) ≡ true) bytes word)).0 refl
              | inr differs ↦ free_first (encode_utf8 c) _ i (free_character c (ne_eqb c 47 not_slash) (ne_eqb c 92 differs)) (some_byte c) word
            ]
      ]

  -- the byte after a backslash is no slash
  after_backslash : (escaped : Bool) (cs : List ℕ) (i : ℕ) → ends_in_backslash (92 ∷ cs) ≡ false → has_escaped_slash escaped cs ≡ false → has_word text i (printed_pattern escaped cs) ≡ true → is_byte text i 47 ≡ false
  after_backslash escaped [] i last clear h = absurd (true≢false last)
  after_backslash escaped (c ∷ cs) i last clear h = no_slash_first escaped c cs i clear h

  last_of : (c : ℕ) (cs : List ℕ) → ends_in_backslash (c ∷ cs) ≡ false → ends_in_backslash cs ≡ false
  last_of c [] last = refl
  last_of c (d ∷ cs) last = last

  slash_back : (i : ℕ) (xs : List ℕ) (j : ℕ) → has_word text i (codes "\\/") ≡ true → ReadsPattern text (i + 2) xs j → ReadsPattern text i (encode_utf8 47 ++ xs) j
  slash_back i xs j h r =
      let escape : is_escaped_slash text i ≡ true = and_from _ _ (first_byte text 92 (47 ∷ []) i h) (first_byte text 47 [] (i + 1) (rest_word text 92 (47 ∷ []) i h)) in
      subst (λ w. ReadsPattern text i (w ++ xs) j) (sym (encode_ascii 47 (omega arith))) (slash escape r)

  -- a character's bytes, and what is read after them
  abbrev IsBack : Bool → ℕ → List ℕ → ℕ → List ℕ → Type 0
  IsBack escaped c cs i word = (xs : List ℕ) (j : ℕ) → has_word text i (word ++ printed_pattern (nat_eq c 92 && not escaped) cs) ≡ true → ReadsPattern text (i + length word) xs j → ReadsPattern text i (encode_utf8 c ++ xs) j

  plain_back : (escaped : Bool) (c : ℕ) (cs : List ℕ) (i : ℕ) → nat_eq c 47 ≡ false → ends_in_backslash (c ∷ cs) ≡ false → has_escaped_slash (nat_eq c 92 && not escaped) cs ≡ false → IsBack escaped c cs i (encode_utf8 c)
  plain_back escaped c cs i no_slash last clear xs j h r =
      let word = first_part text (encode_utf8 c) _ i h in
      elim (cases_eq c 92) [
        | inl is ↦
            let bytes : encode_utf8 c ≡ 92 ∷ [] = ap encode_utf8 is ∙ encode_ascii 92 (omega arith) in
            let size : length (encode_utf8 c) ≡ 1 = ap length bytes in
            let here = first_byte text 92 [] i (subst (λ w. has_word text i w ≡ true) bytes word) in
            let after = subst (λ n. has_word text (i + n) (printed_pattern (nat_eq c 92 && not escaped) cs) ≡ true) size (second_part text (encode_utf8 c) _ i h) in
            let next = after_backslash (nat_eq c 92 && not escaped) cs (i + 1) (subst (λ d. ends_in_backslash (d ∷ cs) ≡ false) is last) clear after in
            let rest = subst (λ n. ReadsPattern text (i + n) xs j) size r in
            subst (λ w. ReadsPattern text i (w ++ xs) j) (sym bytes) (byte_read i 92 xs j here (lone_backslash i here next) rest)
        | inr differs ↦ free_read (encode_utf8 c) i xs j (free_character c no_slash (ne_eqb c 92 differs)) word r
      ]

  character_back : (escaped : Bool) (c : ℕ) (cs : List ℕ) (i : ℕ) → has_escaped_slash escaped (c ∷ cs) ≡ false → ends_in_backslash (c ∷ cs) ≡ false → IsBack escaped c cs i (pattern_character escaped c)
  character_back escaped c cs i clear last =
      let parts = or_parts (nat_eq c 47 && escaped) _ clear in
      elim (cases_eq c 47) [
        | inl is ↦
            let here : nat_eq c 47 ≡ true = eq-eqb c 47 is in
            let free : escaped ≡ false = rw here at parts.0 in
            let printed : pattern_character escaped c ≡ codes "\\/" = rw (here, free) refl in
            subst (IsBack escaped c cs i) (sym printed) (λ xs j h r. subst (λ d. ReadsPattern text i (encode_utf8 d ++ xs) j) (sym is) (slash_back i xs j (first_part text (codes "\\/") _ i h) r))
        | inr differs ↦
            let printed : pattern_character escaped c ≡ encode_utf8 c = rw (ne_eqb c 47 differs) refl in
            subst (IsBack escaped c cs i) (sym printed) (plain_back escaped c cs i (ne_eqb c 47 differs) last parts.1)
      ]

  -- a pattern up to the slash that ends it
  pub pattern_back : (escaped : Bool) (cs : List ℕ) (i : ℕ) → has_escaped_slash escaped cs ≡ false → ends_in_backslash cs ≡ false → has_word text i (printed_pattern escaped cs) ≡ true → is_byte text (i + length (printed_pattern escaped cs)) 47 ≡ true → ReadsPattern text i (encodes cs) (i + length (printed_pattern escaped cs))
  pattern_back escaped [] i clear last h end =
      subst (λ k. ReadsPattern text i [] k) (sym (add-zero i)) (closed (subst (λ k. is_byte text k 47 ≡ true) (add-zero i) end))
  pattern_back escaped (c ∷ cs) i clear last h end =
      let next = nat_eq c 92 && not escaped in
      let word = pattern_character escaped c in
      let rest = printed_pattern next cs in
      let place : i + length (word ++ rest) ≡ (i + length word) + length rest = omega (arith, length-append word rest) in
      let after = pattern_back next cs (i + length word) (or_parts (nat_eq c 47 && escaped) _ clear).1 (last_of c cs last) (second_part text word rest i h) (subst (λ k. is_byte text k 47 ≡ true) place end) in
      character_back escaped c cs i clear last (encodes cs) _ h (subst (λ k. ReadsPattern text (i + length word) (encodes cs) k) (sym place) after)
