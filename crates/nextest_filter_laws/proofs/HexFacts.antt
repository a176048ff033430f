-- An escape by a code means the character that it is printed for.
use Rattle.std.proofs.Common.{◌≡◌, ℕ, zero, suc, ◌+◌, ◌-◌, ◌*◌, ◌/◌, ◌%◌, ◌<◌, ◌≤◌, Bool, true, false, cond, ◌&&◌, ◌||◌, ◌==◌, List, [], ◌∷◌, ◌++◌, length, codes, nat_eq, nat_le, nat_lt, inl, inr, refl, ◌∙◌, ap, subst, arith}
use Rattle.std.proofs.lemmas.Bool.{and_parts, and_from, and_right, cases_Bool, cases_eq, cond-true, cond-false, cond_both, lt-ltb, le-ltb, eqb-true, eqb-false}
use Rattle.std.proofs.Math.Nat.{div-add-mod, mod-lt}
use lib.Utf8.{scalar, scalar_cases}
use Rattle.std.specs.Fmt.{digit_glyph, digits, digits_onto}
use Rattle.nextest_filter_tokens.specs.Bytes.{byte, has_word, is_byte}
use Rattle.nextest_filter_tokens.specs.Escapes.{closed_at, digit_value, digits_from, escape_at, is_digit_at, is_scalar}
use Rattle.nextest_filter_tokens.specs.declared.escapes.Escape.TheVariants.{Means}
use Rattle.nextest_filter_tokens.proofs.BlankFacts.{byte_within}
use Rattle.nextest_filter_laws.proofs.WordFacts.{byte_is, first_byte, rest_word, second_part}

-- the digits below n have the values that they are printed for
abbrev values_below : ℕ → Bool
values_below zero = true
values_below (suc n) = nat_eq (digit_value (digit_glyph false n)) n && values_below n

value_below : (n : ℕ) → values_below n ≡ true → (x : ℕ) → x < n → digit_value (digit_glyph false x) ≡ x
value_below zero e x h = absurd (omega arith)
value_below (suc n) e x h =
    let parts = and_parts (nat_eq (digit_value (digit_glyph false n)) n) _ e in
    elim (cases_eq x n) [
      | inl same ↦ rw same (eqb-true _ n parts.0)
      | inr other ↦ value_below n parts.1 x (omega arith)
    ]

digit_back : (d : ℕ) → d < 16 → digit_value (digit_glyph false d) ≡ d
digit_back d small = value_below 16 refl d small

-- one more than the greatest number of so many digits
abbrev bound : ℕ → ℕ
bound zero = 1
bound (suc d) = 16 * bound d

digits_append : (k n : ℕ) (acc rest : List ℕ) → digits_onto k 16 false n acc ++ rest ≡ digits_onto k 16 false n (acc ++ rest)
digits_append zero n acc rest = refl
digits_append (suc k) n acc rest =
    elim (cases_Bool (n / 16 == 0)) [
      | inl ends ↦ rw ends refl
      | inr goes ↦ rw goes (digits_append k (n / 16) (digit_glyph false (n % 16) ∷ acc) rest)
    ]

same_or : (x y : Bool) → cond x true y ≡ true → (x || y) ≡ true
same_or true y e = refl
same_or false y e = e

pub scalar_low : (c : ℕ) → scalar c ≡ true → c < 0x11_0000
scalar_low c is =
    elim (scalar_cases c is) [
      | inl low ↦ omega (arith, low)
      | inr high ↦ omega (arith, high.1)
    ]

module _ (text : List ℕ) where
  digit_step : (left i d code : ℕ) (some : Bool) → is_byte text i (digit_glyph false d) ≡ true → d < 16 → code ≤ 0x10_ffff → digits_from text (suc left) some code i ≡ digits_from text left true (code * 16 + d) (i + 1)
  digit_step left i d code some h small low =
      let value : digit_value (byte text i) ≡ d = ap digit_value (byte_is text i _ h) ∙ digit_back d small in
      let digit : is_digit_at text i ≡ true = and_from _ _ (lt-ltb i (length text) (byte_within text i _ h)) (lt-ltb _ 16 (omega (arith, value, small))) in
      cond-true _ _ _ digit ∙ cond-false _ _ _ (le-ltb 0x10_ffff code low) ∙ ap (λ v. digits_from text left true (code * 16 + v) (i + 1)) value

  -- the digits of a number are read, with room for some more
  record IsRead (total e n i : ℕ) (rest word : List ℕ) : Type 0 where
    pub left : ℕ
    pub place : ℕ
    pub room : e ≤ left
    pub is : digits_from text total false 0 i ≡ digits_from text left true n place
    pub stands : has_word text place rest ≡ true
    pub size : place + length rest ≡ i + length word

  one_digit : (total e n i : ℕ) (rest : List ℕ) → e < total → n / 16 ≡ 0 → n ≤ 0x10_ffff → has_word text i (digit_glyph false (n % 16) ∷ rest) ≡ true → IsRead total e n i rest (digit_glyph false (n % 16) ∷ rest)
  one_digit total e n i rest room ends low h =
      let same : 0 * 16 + n % 16 ≡ n = omega (arith, div-add-mod n 16, ends) in
      let left : total ≡ suc (total - 1) = omega (arith, room) in
      record {
        left = total - 1;
        place = i + 1;
        room = omega (arith, room);
        is = ap (λ l. digits_from text l false 0 i) left ∙ digit_step (total - 1) i (n % 16) 0 false (first_byte text _ rest i h) (mod-lt n (omega arith)) (omega arith) ∙ ap (λ c. digits_from text (total - 1) true c (i + 1)) same;
        stands = rest_word text _ rest i h;
        size = omega arith;
      }

  next_digit : (total e n i : ℕ) (rest word : List ℕ) → n ≤ 0x10_ffff → IsRead total (suc e) (n / 16) i (digit_glyph false (n % 16) ∷ rest) word → IsRead total e n i rest word
  next_digit total e n i rest word low r =
      let same : n / 16 * 16 + n % 16 ≡ n = omega (arith, div-add-mod n 16) in
      let left : r.left ≡ suc (r.left - 1) = omega (arith, r.room) in
      let step = digit_step (r.left - 1) r.place (n % 16) (n / 16) true (first_byte text _ rest r.place r.stands) (mod-lt n (omega arith)) (omega (arith, low, div-add-mod n 16)) in
      record {
        left = r.left - 1;
        place = r.place + 1;
        room = omega (arith, r.room);
        is = r.is ∙ ap (λ l. digits_from text l true (n / 16) r.place) left ∙ step ∙ ap (λ c. digits_from text (r.left - 1) true c (r.place + 1)) same;
        stands = rest_word text _ rest r.place r.stands;
        size = omega (arith, r.size);
      }

  hex_read : (k d e total n i : ℕ) (rest : List ℕ) → d < k → total ≡ suc d + e → n < bound (suc d) → n ≤ 0x10_ffff → has_word text i (digits_onto k 16 false n rest) ≡ true → IsRead total e n i rest (digits_onto k 16 false n rest)
  hex_read zero d e total n i rest fuel count small low = absurd (omega (arith, fuel))
  hex_read (suc k) zero e total n i rest fuel count small low =
      let ends : n / 16 ≡ 0 = omega (arith, small, div-add-mod n 16) in
      cond_both _ _ _ (λ w. has_word text i w ≡ true → IsRead total e n i rest w) (λ _. one_digit total e n i rest (omega (arith, count)) ends low) (λ more. absurd (eqb-false _ 0 more ends))
  hex_read (suc k) (suc d) e total n i rest fuel count small low =
      let lower : n < 16 * bound (suc d) = small in
      let less : n / 16 < bound (suc d) = omega (arith, lower, div-add-mod n 16) in
      cond_both _ _ _ (λ w. has_word text i w ≡ true → IsRead total e n i rest w) (λ ends. one_digit total e n i rest (omega (arith, count)) (eqb-true _ 0 ends) low) (λ _ h. next_digit total e n i rest _ low (hex_read k d (suc e) total (n / 16) i (digit_glyph false (n % 16) ∷ rest) (omega (arith, fuel)) (omega (arith, count)) less (omega (arith, low, div-add-mod n 16)) h))

  -- a brace after the digits of a character's code ends them
  brace_ends : (c i : ℕ) → is_byte text i 125 ≡ true → is_scalar c ≡ true → closed_at text true c i ≡ Means c (i + 1)
  brace_ends c i h is = cond-true _ _ _ (and_from _ _ (and_from true _ refl h) is)

  hex_closed : (left c i : ℕ) → is_byte text i 125 ≡ true → is_scalar c ≡ true → digits_from text left true c i ≡ Means c (i + 1)
  hex_closed zero c i h is = brace_ends c i h is
  hex_closed (suc left) c i h is =
      let value : digit_value (byte text i) ≡ 16 = ap digit_value (byte_is text i 125 h) in
      let digit : is_digit_at text i ≡ false = and_right (nat_lt i (length text)) _ (le-ltb _ 16 (omega (arith, value))) in
      cond-false _ _ _ digit ∙ brace_ends c i h is

  pub hex_escape : (c i : ℕ) → scalar c ≡ true → c < 0x11_0000 → has_word text i (codes "u{" ++ (digits 16 false c ++ codes "}")) ≡ true → escape_at text i ≡ Means c (i + length (codes "u{" ++ (digits 16 false c ++ codes "}")))
  unfolding digits
  hex_escape c i is low h =
      let tail = digits 16 false c ++ codes "}" in
      let word : tail ≡ digits_onto 64 16 false c (codes "}") = digits_append 64 c [] (codes "}") in
      let inner : has_word text (i + 2) (digits_onto 64 16 false c (codes "}")) ≡ true = subst (λ w. has_word text (i + 2) w ≡ true) word (second_part text (codes "u{") tail i h) in
      let limit : bound 6 ≡ 16777216 = refl in
      let r = hex_read 64 5 0 6 c (i + 2) (codes "}") (omega arith) (omega arith) (omega (arith, low, limit)) (omega (arith, low)) inner in
      let place : r.place + 1 ≡ i + length (codes "u{" ++ tail) = omega (arith, r.size, ap length word) in
      let first = first_byte text 117 (123 ∷ tail) i h in
      let second = first_byte text 123 tail (i + 1) (rest_word text 117 (123 ∷ tail) i h) in
      let closes = hex_closed r.left c r.place (first_byte text 125 [] r.place r.stands) (same_or (nat_lt c 0xd800) (nat_le 0xe000 c && nat_lt c 0x11_0000) is) in
      cond-true _ _ _ first ∙ cond-true _ _ _ second ∙ r.is ∙ closes ∙ ap (Means c) place
