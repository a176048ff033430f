-- What a text asks for as a part is read at its first slash.
use Rattle.std.proofs.Common.{◌≡◌, ◌≢◌, ◌∙◌, ℕ, ◌<◌, ◌≤◌, ◌^◌, Bool, true, false, [], ◌∷◌, ◌++◌, length, get_or, codes, Option, Some, None, MatchOption, Bor, Result, Ok, Err, refl, sym, ap, subst, arith, lit<, eqb, zero, suc, drop, cond, option_map, unwrap_or}
use Rattle.std.proofs.lemmas.Str.Parse.{digit_at}
use Rattle.std.proofs.lemmas.Str.Pattern.{IsSplitOnceResult, split_after, split_parts}
use Rattle.std.proofs.lemmas.Bool.Decides.{Decides-eqb}
use Rattle.std.specs.Result.{result_ok}
use Rattle.std.specs.Str.Parse.{AllDigits, ParsesUnsigned, without_leading_plus}
use Rattle.workspace_record.specs.Records.{Text}
use Rattle.test_select_tests.specs.Partitions.{AsksForPart, WritesNumber}

-- what is parsed of a text is the number that it writes
pub number_read : {E : Type 0} (text : Text) (r : Result ℕ E) (o : Option ℕ) → ParsesUnsigned 64 10 text r → o ≡ result_ok r → (n : ℕ) → (WritesNumber text n → o ≡ Some n) × (o ≡ Some n → WritesNumber text n)
number_read text (Ok x) o h e n = (
  λ w. e ∙ ap Some (h.1 ∙ sym w.value),
  λ is.
      let same : x ≡ n = cc (e, is) in
      record { numeral = h.0.0; value = sym same ∙ h.1; fits = subst (λ v. v < 2 ^ 64) (sym h.1 ∙ same) h.0.1 },
)
number_read text (Err x) o h e n =
    (λ w. absurd (h (w.numeral, subst (λ v. v < 2 ^ 64) w.value w.fits)), λ is. absurd (cc (e, is)))

-- no slash stands among digits, behind a plus or not
pub no_slash : (text : Text) → AllDigits 10 (without_leading_plus text) → (i : ℕ) → i < length text → get_or text i 0 ≢ 47
no_slash [] digits i lt = absurd (omega arith)
no_slash (c ∷ cs) digits i lt = by (eqb c 43) refl i lt
  where
    by : (b : Bool) → eqb c 43 ≡ b → (i : ℕ) → i < length (c ∷ cs) → get_or (c ∷ cs) i 0 ≢ 47
    by true is zero lt = λ slash. let plus = (Decides-eqb c 43).0 is in absurd (omega arith)
    by true is (suc j) lt = λ slash.
        let all : AllDigits 10 cs = subst (λ b. AllDigits 10 (drop (cond b 1 0) (c ∷ cs))) is digits in
        let digit = digit_at cs j all (omega arith) in
        absurd (omega arith)
    by false is i lt = λ slash.
        let all : AllDigits 10 (c ∷ cs) = subst (λ b. AllDigits 10 (drop (cond b 1 0) (c ∷ cs))) is digits in
        let digit = digit_at (c ∷ cs) i all lt in
        absurd (omega arith)

-- what is asked for stands on both sides of the first slash
pub asked_around : (text rest : Text) (r : Option (Bor Text × Bor Text)) → text ≡ codes "count:" ++ rest → IsSplitOnceResult 47 rest r → (part parts : ℕ) → AsksForPart text part parts → MatchOption r ⊥ (λ x. WritesNumber x.0.now part × WritesNumber x.1.now parts)
asked_around text rest r is cut part parts asks =
    let same : rest ≡ asks.first ++ 47 ∷ asks.second = ap (drop 6) (sym is ∙ asks.whole) in
    around r (split_after 47 rest asks.first asks.second r cut (lit< tt) same (no_slash asks.first asks.first_is.numeral.1))
  where
    around : (o : Option (Bor Text × Bor Text)) → MatchOption o ⊥ (λ x. (x.0.now ≡ asks.first) × (x.1.now ≡ asks.second)) → MatchOption o ⊥ (λ x. WritesNumber x.0.now part × WritesNumber x.1.now parts)
    around None h = h
    around (Some x) h = (subst (λ t. WritesNumber t part) (sym h.0) asks.first_is, subst (λ t. WritesNumber t parts) (sym h.1) asks.second_is)

-- where both of these were read as numbers, the numbers are those that are asked for
pub record AreAsked (m n part parts : ℕ) : Type 0 where
  pub first : m ≡ part
  pub second : n ≡ parts
  pub from_one : 1 ≤ m
  pub within : m ≤ n

module _ (text rest : Text) (x : Bor Text × Bor Text) (is : text ≡ codes "count:" ++ rest) (cut : IsSplitOnceResult 47 rest (Some x)) where
  pub asked_are : (m n : ℕ) → ((number : ℕ) → WritesNumber x.0.now number → Some m ≡ Some number) → ((number : ℕ) → WritesNumber x.1.now number → Some n ≡ Some number) → (part parts : ℕ) → AsksForPart text part parts → AreAsked m n part parts
  asked_are m n one other part parts asks =
      let written = asked_around text rest (Some x) is cut part parts asks in
      let first : m ≡ part = cc (one part written.0) in
      let second : n ≡ parts = cc (other parts written.1) in
      let low = asks.from_one in
      let high = asks.within in
      record { first = first; second = second; from_one = omega arith; within = omega arith }

  pub asks_for : (part parts : ℕ) → WritesNumber x.0.now part → WritesNumber x.1.now parts → 1 ≤ part → part ≤ parts → AsksForPart text part parts
  asks_for part parts one other from_one within = record {
    first = x.0.now;
    second = x.1.now;
    whole = is ∙ ap (λ r. codes "count:" ++ r) (split_parts 47 rest (Some x) cut (lit< tt)).0;
    first_is = one;
    second_is = other;
    from_one = from_one;
    within = within;
  }

-- where nothing is asked for, none is read
pub none_read : {A B : Type 0} (view : A → B) (o : Option A) (b : B) (P : Type 0) → o ≡ None → (P → ⊥) → (P → option_map view o ≡ Some b) × (option_map view o ≡ Some b → P)
none_read view o b P none unasked = (λ p. absurd (unasked p), λ is. absurd (cc (ap (option_map view) none, is)))

pub same_numbers : (m n part parts : ℕ) → ◌≡◌ {A = Option (ℕ × ℕ)} (Some (m, n)) (Some (part, parts)) → (m ≡ part) × (n ≡ parts)
same_numbers m n part parts same =
    let numbers = λ (o : Option (ℕ × ℕ)). unwrap_or o (m, n) in
    (ap (λ (o : Option (ℕ × ℕ)). (numbers o).0) same, ap (λ (o : Option (ℕ × ℕ)). (numbers o).1) same)
