-- A text reads back from what is printed of it.
use Rattle.std.proofs.Common.{◌≡◌, ℕ, ◌+◌, ◌<◌, Bool, true, false, ◌&&◌, ◌||◌, List, [], ◌∷◌, ◌++◌, length, codes, Some, if◌then◌else◌, nat_eq, nat_le, inl, inr, refl, sym, ◌∙◌, ap, subst, arith, add-zero}
use Rattle.std.proofs.lemmas.Bool.{and_parts, cases_eq, cond-true, cond-false, cond_both, false≢true, lt-ltb, eqb-true, ne_eqb, leb-true, or_parts}
use Rattle.std.proofs.lemmas.List.{length-append}
use Rattle.std.proofs.lemmas.Str.{encode_ascii}
use Rattle.std.proofs.Math.Utf8.{encodes, scalar, scalars}
use Rattle.std.specs.Char.{encode_utf8}
use Rattle.std.specs.Fmt.{digits}
use Rattle.std.specs.List.{flat_map}
use Rattle.nextest_filter_matchers.specs.Printing.{printed_character}
use Rattle.nextest_filter_tokens.specs.Bytes.{byte, has_word, is_byte}
use Rattle.nextest_filter_tokens.specs.Escapes.{escape_at, named_at, named_escape}
use Rattle.nextest_filter_tokens.specs.declared.escapes.Escape.TheVariants.{Means}
use Rattle.nextest_filter_tokens.proofs.BlankFacts.{byte_within}
use Rattle.nextest_filter_tokens.specs.Texts.{ReadsText, ended, escaped, is_plain, is_text_end, plain}
use Rattle.nextest_filter_laws.proofs.WordFacts.{byte_is, first_byte, first_part, other_byte, rest_word, second_part}
use Rattle.nextest_filter_laws.proofs.HexFacts.{hex_escape, scalar_low}

-- a slash, a parenthesis, a comma or a backslash means itself after a backslash
abbrev pub is_signed : ℕ → Bool
is_signed c = nat_eq c 47 || nat_eq c 41 || nat_eq c 44 || nat_eq c 92

-- what is printed of a character that is none of these, and of those that are no line feed, no carriage return and no tab
abbrev pub code_word : ℕ → List ℕ
code_word c = codes "\\u{" ++ (digits 16 false c ++ codes "}")

abbrev pub graphic_word : ℕ → List ℕ
graphic_word c = if nat_le 32 c && nat_le c 126 then c ∷ [] else code_word c

abbrev pub tab_word : ℕ → List ℕ
tab_word c = if nat_eq c 9 then codes "\\t" else graphic_word c

abbrev pub return_word : ℕ → List ℕ
return_word c = if nat_eq c 13 then codes "\\r" else tab_word c

abbrev pub line_word : ℕ → List ℕ
line_word c = if nat_eq c 10 then codes "\\n" else return_word c

sign_named : (c : ℕ) → is_signed c ≡ true → (nat_eq c 117 ≡ false) × (named_escape c ≡ Some c)
sign_named c h =
    elim (cases_eq c 47) [
      | inl e ↦ rw e (refl, refl)
      | inr a ↦
          elim (cases_eq c 41) [
            | inl e ↦ rw e (refl, refl)
            | inr b ↦
                elim (cases_eq c 44) [
                  | inl e ↦ rw e (refl, refl)
                  | inr d ↦
                      elim (cases_eq c 92) [
                        | inl e ↦ rw e (refl, refl)
                        | inr f ↦ absurd (false≢true (rw (ne_eqb c 47 a, ne_eqb c 41 b, ne_eqb c 44 d, ne_eqb c 92 f) at h))
                      ]
                ]
          ]
    ]

module _ (text : List ℕ) where
  pub goes_on : (i c : ℕ) → is_byte text i c ≡ true → nat_eq c 41 ≡ false → nat_eq c 44 ≡ false → is_text_end text i ≡ false
  goes_on i c h close comma =
      rw (lt-ltb i (length text) (byte_within text i c h), byte_is text i c h, close, comma) refl

  -- what follows a character's printed bytes follows the character
  abbrev Back : ℕ → ℕ → List ℕ → Type 0
  Back c i word = has_word text i word ≡ true → (xs : List ℕ) (j : ℕ) → ReadsText text (i + length word) xs j → ReadsText text i (encode_utf8 c ++ xs) j

  escape_back : (c d i : ℕ) → nat_eq d 117 ≡ false → named_escape d ≡ Some c → Back c i (92 ∷ (d ∷ []))
  escape_back c d i bare named h xs j r =
      let slash = first_byte text 92 (d ∷ []) i h in
      let letter = first_byte text d [] (i + 1) (rest_word text 92 (d ∷ []) i h) in
      let means : escape_at text (i + 1) ≡ Means c (i + 1 + 1) = cond-false _ _ _ (other_byte text (i + 1) d 117 letter bare) ∙ cond-true _ _ _ (lt-ltb _ _ (byte_within text (i + 1) d letter)) ∙ ap (λ b. named_at (named_escape b) (i + 1 + 1)) (byte_is text (i + 1) d letter) ∙ ap (λ o. named_at o (i + 1 + 1)) named in
      let same : i + 2 ≡ i + 1 + 1 = omega arith in
      escaped (goes_on i 92 slash refl refl) slash means (subst (λ k. ReadsText text k xs j) same r)

  sign_back : (c i : ℕ) → is_signed c ≡ true → Back c i (92 ∷ (c ∷ []))
  sign_back c i h =
      let named = sign_named c h in
      escape_back c c i named.0 named.1

  letter_back : (c d e i : ℕ) → nat_eq e 117 ≡ false → named_escape e ≡ Some d → nat_eq c d ≡ true → Back c i (92 ∷ (e ∷ []))
  letter_back c d e i bare named h = escape_back c e i bare (named ∙ ap Some (sym (eqb-true c d h)))

  plain_back : (c i : ℕ) → is_signed c ≡ false → nat_le 32 c && nat_le c 126 ≡ true → Back c i (c ∷ [])
  plain_back c i bare graphic h xs j r =
      let here = first_byte text c [] i h in
      let small : c < 128 = omega (arith, leb-true c 126 (and_parts (nat_le 32 c) _ graphic).1) in
      let last = or_parts _ (nat_eq c 92) bare in
      let before = or_parts _ (nat_eq c 44) last.0 in
      let close : nat_eq c 41 ≡ false = (or_parts (nat_eq c 47) _ before.0).1 in
      let comma : nat_eq c 44 ≡ false = before.1 in
      let slash : nat_eq c 92 ≡ false = last.1 in
      let stands : is_plain text i ≡ true = rw (goes_on i c here close comma, byte_is text i c here, slash) refl in
      let same : encode_utf8 c ++ xs ≡ byte text i ∷ xs = ap (λ w. w ++ xs) (encode_ascii c small) ∙ ap (λ b. b ∷ xs) (sym (byte_is text i c here)) in
      subst (λ zs. ReadsText text i zs j) (sym same) (plain stands r)

  hex_back : (c i : ℕ) → scalar c ≡ true → Back c i (codes "\\u{" ++ (digits 16 false c ++ codes "}"))
  hex_back c i is h xs j r =
      let slash = (and_parts (is_byte text i 92) _ h).0 in
      let means = hex_escape text c (i + 1) is (scalar_low c is) (and_parts (is_byte text i 92) _ h).1 in
      let same : i + length (codes "\\u{" ++ (digits 16 false c ++ codes "}")) ≡ (i + 1) + length (codes "u{" ++ (digits 16 false c ++ codes "}")) = omega arith in
      escaped (goes_on i 92 slash refl refl) slash means (subst (λ k. ReadsText text k xs j) same r)

  character_back : (c i : ℕ) → scalar c ≡ true → Back c i (printed_character c)
  character_back c i is =
      cond_both (is_signed c) (92 ∷ (c ∷ [])) (line_word c) (Back c i) (sign_back c i) (λ bare. cond_both (nat_eq c 10) (codes "\\n") (return_word c) (Back c i) (letter_back c 10 110 i refl refl) (λ _. cond_both (nat_eq c 13) (codes "\\r") (tab_word c) (Back c i) (letter_back c 13 114 i refl refl) (λ _. cond_both (nat_eq c 9) (codes "\\t") (graphic_word c) (Back c i) (letter_back c 9 116 i refl refl) (λ _. cond_both (nat_le 32 c && nat_le c 126) (c ∷ []) (code_word c) (Back c i) (plain_back c i bare) (λ _. hex_back c i is)))))

  -- a text that ends after its printed bytes
  pub text_back : (cs : List ℕ) (i : ℕ) → scalars cs ≡ true → has_word text i (flat_map printed_character cs) ≡ true → is_text_end text (i + length (flat_map printed_character cs)) ≡ true → ReadsText text i (encodes cs) (i + length (flat_map printed_character cs))
  text_back [] i are h end = subst (λ k. ReadsText text i [] k) (sym (add-zero i)) (ended (subst (λ k. is_text_end text k ≡ true) (add-zero i) end))
  text_back (c ∷ cs) i are h end =
      let parts = and_parts (scalar c) _ are in
      let word = printed_character c in
      let rest = flat_map printed_character cs in
      let place : i + length (word ++ rest) ≡ (i + length word) + length rest = omega (arith, length-append word rest) in
      let after = text_back cs (i + length word) parts.1 (second_part text word rest i h) (subst (λ k. is_text_end text k ≡ true) place end) in
      character_back c i parts.0 (first_part text word rest i h) (encodes cs) _ (subst (λ k. ReadsText text (i + length word) (encodes cs) k) (sym place) after)
