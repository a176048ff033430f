-- A matcher reads back from what is printed of it.
use Rattle.std.proofs.Common.{◌≡◌, ℕ, ◌+◌, Ok, ◌<◌, Bool, true, false, not, ◌&&◌, List, [], ◌∷◌, ◌++◌, length, codes, Some, nat_eq, nat_le, nat_lt, refl, sym, ◌∙◌, ap, subst, arith}
use Rattle.std.proofs.lemmas.Bool.{and_parts, cond-true, cond-false, cond_both, leb-true, ne_eqb, or_left, or_right, not-true, or_parts}
use Rattle.std.proofs.lemmas.List.{length-append}
use Rattle.std.proofs.lemmas.Str.{IsUtf8-string_bytes, encodes-chars, scalars-chars}
use Rattle.std.proofs.Math.Utf8.{encodes}
use Rattle.std.specs.Fmt.{digits}
use Rattle.std.specs.List.{flat_map}
use Rattle.std.specs.Str.{IsUtf8, chars}
use Rattle.nextest_filter_matchers.specs.GlobReading.{read_glob}
use Rattle.nextest_filter_matchers.specs.Identities.{to_read}
use Rattle.nextest_filter_matchers.specs.Matchers.{Matcher, Equal, Contains, Glob, Regex, matcher_of}
use Rattle.nextest_filter_matchers.specs.Printing.{matcher_text, printed_character, printed_pattern, printed_sign, printed_text}
use Rattle.nextest_filter_matchers.specs.declared.name_matcher.NameMatcher.{NameMatcher}
use Rattle.nextest_filter_matchers.specs.declared.name_matcher.NameMatcher.TheVariants as name
use Rattle.nextest_filter_tokens.specs.Bytes.{has_word, is_byte, skip}
use Rattle.nextest_filter_tokens.specs.declared.heads.Predicate.{Predicate}
use Rattle.nextest_filter_tokens.specs.Patterns.{ReadsPattern}
use Rattle.nextest_filter_tokens.specs.Texts.{ReadsText, is_text_end}
use Rattle.nextest_filter_syntax.specs.declared.signs.Style.{Style}
use Rattle.nextest_filter_syntax.specs.declared.signs.Style.TheVariants as style
use Rattle.nextest_filter_syntax.specs.declared.signs.Sign.TheVariants.{Slash, Says, Bare}
use Rattle.nextest_filter_syntax.specs.LeafGrammar.{MatcherBy, PatternFrom, ReadsMatcher, TextFrom, default_style, glob_made, made_of, sign_at}
use Rattle.nextest_filter_laws.specs.Printable.{IsPrintableMatcher, IsPrintableText, begins_signed, is_sign}
use Rattle.nextest_filter_laws.proofs.WordFacts.{first_byte, first_part, is_solid, other_byte, second_part, skip_none}
use Rattle.nextest_filter_laws.proofs.TextBack.{code_word, graphic_word, is_signed, line_word, return_word, tab_word, text_back}
use Rattle.nextest_filter_laws.proofs.PatternBack.{pattern_back}

-- the texts of a matcher are UTF-8, and the tokens of a glob those that its text reads as
abbrev pub IsMade : Matcher → Type 0
IsMade (Equal text implicit) = IsUtf8 text
IsMade (Contains text implicit) = IsUtf8 text
IsMade (Glob text tokens implicit) = IsUtf8 text × (read_glob (chars text) ≡ Ok tokens)
IsMade (Regex pattern) = IsUtf8 pattern

pub matcher_made : (m : NameMatcher) → IsMade (matcher_of m)
matcher_made (name.Equal value implicit) = IsUtf8-string_bytes value
matcher_made (name.Contains value implicit) = IsUtf8-string_bytes value
matcher_made (name.Glob glob implicit) = (IsUtf8-string_bytes glob.text, to_read _ _ glob.has_tokens)
matcher_made (name.Regex regex) = IsUtf8-string_bytes regex.value.pattern.source

first_of : (text cs : List ℕ) → IsUtf8 text → 0 < length text → chars text ≡ cs → (c : ℕ) × (ds : List ℕ) × (chars text ≡ c ∷ ds)
first_of text [] utf8 some e = absurd (omega (arith, some, ap length (sym (encodes-chars text utf8) ∙ ap encodes e)))
first_of text (c ∷ cs) utf8 some e = (c, cs, e)

-- a text that is not empty begins with a character
first_character : (text : List ℕ) → IsUtf8 text → 0 < length text → (c : ℕ) × (cs : List ℕ) × (chars text ≡ c ∷ cs)
first_character text utf8 some = first_of text (chars text) utf8 some refl

module _ (text : List ℕ) where
  pub sign_end : (i : ℕ) → is_byte text i 41 ≡ true → is_text_end text i ≡ true
  sign_end i h = or_left _ _ (or_right (not (nat_lt i (length text))) _ (and_parts _ _ h).1)

  pub printed_back : (bytes : List ℕ) (i : ℕ) → IsUtf8 bytes → has_word text i (printed_text bytes) ≡ true → is_byte text (i + length (printed_text bytes)) 41 ≡ true → ReadsText text i bytes (i + length (printed_text bytes))
  printed_back bytes i utf8 h end =
      subst (λ xs. ReadsText text i xs (i + length (printed_text bytes))) (encodes-chars bytes utf8) (text_back text (chars bytes) i (scalars-chars bytes utf8) h (sign_end _ end))

  -- a byte that is no blank and begins no matcher but a bare text
  abbrev is_bare : ℕ → Bool
  is_bare c = not (nat_eq c 47) && (not (nat_eq c 35) && (not (nat_eq c 61) && not (nat_eq c 126)))

  abbrev IsBare : ℕ → Type 0
  IsBare i = (skip text i ≡ i) × (sign_at text i ≡ Bare)

  bare_byte : (i c : ℕ) → is_byte text i c ≡ true → is_solid c ≡ true → is_bare c ≡ true → IsBare i
  unfolding sign_at
  bare_byte i c h solid bare =
      let a = and_parts _ _ bare in
      let b = and_parts _ _ a.1 in
      let d = and_parts _ _ b.1 in
      (skip_none text i c h solid, cond-false _ _ _ (other_byte text i c 47 h (not-true _ a.0)) ∙ cond-false _ _ _ (other_byte text i c 35 h (not-true _ b.0)) ∙ cond-false _ _ _ (other_byte text i c 61 h (not-true _ d.0)) ∙ cond-false _ _ _ (other_byte text i c 126 h (not-true _ d.1)))

  -- a text that begins with a backslash
  bare_slash : (i : ℕ) (word rest : List ℕ) → has_word text i ((92 ∷ word) ++ rest) ≡ true → IsBare i
  bare_slash i word rest h = bare_byte i 92 (and_parts (is_byte text i 92) _ h).0 refl refl

  bare_plain : (c i : ℕ) (rest : List ℕ) → is_sign c ≡ false → is_signed c ≡ false → nat_le 32 c && nat_le c 126 ≡ true → has_word text i ((c ∷ []) ++ rest) ≡ true → IsBare i
  bare_plain c i rest no_sign no_escape graphic h =
      let low = leb-true 32 c (and_parts (nat_le 32 c) _ graphic).0 in
      let a = or_parts _ (nat_eq c 35) no_sign in
      let b = or_parts _ (nat_eq c 126) a.0 in
      let d = or_parts (nat_eq c 32) (nat_eq c 61) b.0 in
      let e = or_parts _ (nat_eq c 92) no_escape in
      let f = or_parts _ (nat_eq c 44) e.0 in
      let slash = (or_parts (nat_eq c 47) _ f.0).0 in
      let solid : is_solid c ≡ true = rw (d.0, ne_eqb c 10 (λ k. omega (arith, k, low)), ne_eqb c 13 (λ k. omega (arith, k, low))) refl in
      let bare : is_bare c ≡ true = rw (slash, a.1, d.1, b.1) refl in
      bare_byte i c (and_parts (is_byte text i c) _ h).0 solid bare

  -- what begins so is a bare text
  abbrev Begins : ℕ → List ℕ → List ℕ → Type 0
  Begins i rest word = has_word text i (word ++ rest) ≡ true → IsBare i

  -- a text whose first character is no space and no sign
  bare_character : (c i : ℕ) (rest : List ℕ) → is_sign c ≡ false → Begins i rest (printed_character c)
  bare_character c i rest no_sign =
      cond_both (is_signed c) (92 ∷ (c ∷ [])) (line_word c) (Begins i rest) (λ _. bare_slash i (c ∷ []) rest) (λ no_escape. cond_both (nat_eq c 10) (codes "\\n") (return_word c) (Begins i rest) (λ _. bare_slash i (codes "n") rest) (λ _. cond_both (nat_eq c 13) (codes "\\r") (tab_word c) (Begins i rest) (λ _. bare_slash i (codes "r") rest) (λ _. cond_both (nat_eq c 9) (codes "\\t") (graphic_word c) (Begins i rest) (λ _. bare_slash i (codes "t") rest) (λ _. cond_both (nat_le 32 c && nat_le c 126) (c ∷ []) (code_word c) (Begins i rest) (bare_plain c i rest no_sign no_escape) (λ _. bare_slash i (codes "u{" ++ (digits 16 false c ++ codes "}")) rest)))))

  bare_text : (bytes : List ℕ) (i : ℕ) → IsUtf8 bytes → 0 < length bytes → begins_signed (chars bytes) ≡ false → has_word text i (printed_text bytes) ≡ true → IsBare i
  bare_text bytes i utf8 some plain h =
      let first = first_character bytes utf8 some in
      let word = subst (λ cs. has_word text i (flat_map printed_character cs) ≡ true) first.2 h in
      bare_character first.0 i _ (subst (λ cs. begins_signed cs ≡ false) first.2 plain) word

  -- a matcher is read, with no blank before it
  abbrev pub IsReadBack : Predicate → ℕ → Matcher → ℕ → Type 0
  IsReadBack predicate i matcher j = (skip text i ≡ i) × ReadsMatcher text predicate i matcher j

  text_from : (s : Style) (implicit : Bool) (bytes : List ℕ) (matcher : Matcher) (i : ℕ) → IsUtf8 bytes → 0 < length bytes → made_of s implicit bytes ≡ Some matcher → has_word text i (printed_text bytes) ≡ true → is_byte text (i + length (printed_text bytes)) 41 ≡ true → TextFrom text s implicit i matcher (i + length (printed_text bytes))
  text_from s implicit bytes matcher i utf8 some makes h end = record {
    bytes = bytes;
    reads = (printed_back bytes i utf8 h end, some);
    makes = makes;
  }

  -- a text with its sign before it
  signed_back : (sign : ℕ) (s : Style) (predicate : Predicate) (bytes : List ℕ) (matcher : Matcher) (i : ℕ) → is_solid sign ≡ true → (is_byte text i sign ≡ true → sign_at text i ≡ Says s) → IsUtf8 bytes → 0 < length bytes → made_of s false bytes ≡ Some matcher → has_word text i (sign ∷ printed_text bytes) ≡ true → is_byte text (i + length (sign ∷ printed_text bytes)) 41 ≡ true → IsReadBack predicate i matcher (i + length (sign ∷ printed_text bytes))
  signed_back sign s predicate bytes matcher i solid says utf8 some makes h end =
      let here = (and_parts (is_byte text i sign) _ h).0 in
      let place : i + length (sign ∷ printed_text bytes) ≡ (i + 1) + length (printed_text bytes) = omega arith in
      let from = text_from s false bytes matcher (i + 1) utf8 some makes (and_parts (is_byte text i sign) _ h).1 (subst (λ k. is_byte text k 41 ≡ true) place end) in
      (skip_none text i sign here solid, subst (MatcherBy text predicate i matcher (i + length (sign ∷ printed_text bytes))) (sym (says here)) (subst (λ k. TextFrom text s false (i + 1) matcher k) (sym place) from))

  -- a text without a sign
  bare_back : (s : Style) (predicate : Predicate) (bytes : List ℕ) (matcher : Matcher) (i : ℕ) → s ≡ default_style predicate → begins_signed (chars bytes) ≡ false → IsUtf8 bytes → 0 < length bytes → made_of s true bytes ≡ Some matcher → has_word text i (printed_text bytes) ≡ true → is_byte text (i + length (printed_text bytes)) 41 ≡ true → IsReadBack predicate i matcher (i + length (printed_text bytes))
  bare_back s predicate bytes matcher i default plain utf8 some makes h end =
      let bare = bare_text bytes i utf8 some plain h in
      let from = text_from s true bytes matcher i utf8 some makes h end in
      (bare.0, subst (MatcherBy text predicate i matcher (i + length (printed_text bytes))) (sym bare.1) (subst (λ t. TextFrom text t true i matcher (i + length (printed_text bytes))) default from))

  styled_back : (implicit : Bool) (sign : ℕ) (s : Style) (predicate : Predicate) (bytes : List ℕ) (matcher : Matcher) (i : ℕ) → is_solid sign ≡ true → (is_byte text i sign ≡ true → sign_at text i ≡ Says s) → IsUtf8 bytes → IsPrintableText s predicate bytes implicit → made_of s implicit bytes ≡ Some matcher → has_word text i (printed_sign sign implicit ++ printed_text bytes) ≡ true → is_byte text (i + length (printed_sign sign implicit ++ printed_text bytes)) 41 ≡ true → IsReadBack predicate i matcher (i + length (printed_sign sign implicit ++ printed_text bytes))
  styled_back true sign s predicate bytes matcher i solid says utf8 printable makes h end =
      bare_back s predicate bytes matcher i (printable.default refl) (printable.plain refl) utf8 printable.some makes h end
  styled_back false sign s predicate bytes matcher i solid says utf8 printable makes h end =
      signed_back sign s predicate bytes matcher i solid says utf8 printable.some makes h end

  says_equal : (i : ℕ) → is_byte text i 61 ≡ true → sign_at text i ≡ Says style.Equal
  unfolding sign_at
  says_equal i h = cond-false _ _ _ (other_byte text i 61 47 h refl) ∙ cond-false _ _ _ (other_byte text i 61 35 h refl) ∙ cond-true _ _ _ h

  says_contains : (i : ℕ) → is_byte text i 126 ≡ true → sign_at text i ≡ Says style.Contains
  unfolding sign_at
  says_contains i h =
      cond-false _ _ _ (other_byte text i 126 47 h refl) ∙ cond-false _ _ _ (other_byte text i 126 35 h refl) ∙ cond-false _ _ _ (other_byte text i 126 61 h refl) ∙ cond-true _ _ _ h

  says_glob : (i : ℕ) → is_byte text i 35 ≡ true → sign_at text i ≡ Says style.Glob
  unfolding sign_at
  says_glob i h = cond-false _ _ _ (other_byte text i 35 47 h refl) ∙ cond-true _ _ _ h

  says_slash : (i : ℕ) → is_byte text i 47 ≡ true → sign_at text i ≡ Slash
  unfolding sign_at
  says_slash i h = cond-true _ _ _ h

  -- a matcher before the parenthesis that closes its leaf
  pub matcher_back : (predicate : Predicate) (m : Matcher) (i : ℕ) → IsPrintableMatcher predicate m → IsMade m → has_word text i (matcher_text m) ≡ true → is_byte text (i + length (matcher_text m)) 41 ≡ true → IsReadBack predicate i m (i + length (matcher_text m))
  matcher_back predicate (Equal bytes implicit) i printable utf8 h end =
      styled_back implicit 61 style.Equal predicate bytes (Equal bytes implicit) i refl (says_equal i) utf8 printable refl h end
  matcher_back predicate (Contains bytes implicit) i printable utf8 h end =
      styled_back implicit 126 style.Contains predicate bytes (Contains bytes implicit) i refl (says_contains i) utf8 printable refl h end
  matcher_back predicate (Glob bytes tokens implicit) i printable made h end =
      styled_back implicit 35 style.Glob predicate bytes (Glob bytes tokens implicit) i refl (says_glob i) made.0 printable (ap (glob_made implicit bytes) made.1) h end
  matcher_back predicate (Regex pattern) i printable utf8 h end =
      let here = (and_parts (is_byte text i 47) _ h).0 in
      let word = printed_pattern false (chars pattern) in
      let rest = (and_parts (is_byte text i 47) _ h).1 in
      let closes = first_byte text 47 [] ((i + 1) + length word) (second_part text word (codes "/") (i + 1) rest) in
      let size : i + length (matcher_text (Regex pattern)) ≡ ((i + 1) + length word) + 1 = omega (arith, length-append word (codes "/")) in
      let reads = pattern_back text false (chars pattern) (i + 1) printable.slashes printable.last (first_part text word (codes "/") (i + 1) rest) closes in
      let from : PatternFrom text (i + 1) (Regex pattern) (i + length (matcher_text (Regex pattern))) = record {
        bytes = pattern;
        end = (i + 1) + length word;
        reads = subst (λ xs. ReadsPattern text (i + 1) xs ((i + 1) + length word)) (encodes-chars pattern utf8) reads;
        is = refl;
        after = size;
      } in
      (skip_none text i 47 here refl, subst (MatcherBy text predicate i (Regex pattern) (i + length (matcher_text (Regex pattern)))) (sym (says_slash i here)) from)
