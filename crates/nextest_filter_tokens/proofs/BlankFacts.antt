-- Blanks are passed one at a time.
use Rattle.std.proofs.Common.{◌≡◌, ℕ, zero, suc, ◌+◌, ◌-◌, ◌<◌, ◌≤◌, true, List, [], ◌∷◌, length, nat_eq, cond, refl, sym, ◌∙◌, ap, subst, arith, false, ◌&&◌, inl, inr}
use Rattle.std.proofs.lemmas.Bool.{cases_lt, ne_eqb, eq-eqb, eqb-true, and_parts, le-ltb, ltb-true, cond_both}
use Rattle.std.proofs.lemmas.Str.{IsCharBoundary-after_ascii}
use Rattle.std.specs.Str.{IsUtf8, IsCharBoundary}
use Rattle.nextest_filter_tokens.specs.Bytes.{BlanksReadOnce, ReadsBlanks, blank_length, blanks_from, byte, has_word, is_byte, none, one, skip}

pub blanks_from-more : (text : List ℕ) (n i : ℕ) → 0 < n → (blank_length text i ≡ 0 → ⊥) → blanks_from text n i ≡ blanks_from text (n - 1) (i + blank_length text i)
blanks_from-more text zero i h ne = absurd (omega arith)
blanks_from-more text (suc n) i h ne =
    let same : n ≡ suc n - 1 = omega arith in
    ap (λ b. cond b i (blanks_from text n (i + blank_length text i))) (ne_eqb (blank_length text i) 0 ne) ∙ ap (λ k. blanks_from text k (i + blank_length text i)) same

pub blanks_from-none : (text : List ℕ) (n i : ℕ) → blank_length text i ≡ 0 → blanks_from text n i ≡ i
blanks_from-none text zero i e = refl
blanks_from-none text (suc n) i e =
    ap (λ b. cond b i (blanks_from text n (i + blank_length text i))) (eq-eqb (blank_length text i) 0 e)

-- a word that stands in a text ends within it
pub has_word-within : (text : List ℕ) (i : ℕ) (word : List ℕ) → has_word text i word ≡ true → 0 < length word → i + length word ≤ length text
has_word-within text i [] h some = absurd (omega arith)
has_word-within text i (c ∷ []) h some =
    let at = (and_parts _ _ (and_parts (is_byte text i c) true h).0).0 in
    let lt = ltb-true i (length text) at in
    omega arith
has_word-within text i (c ∷ (d ∷ word)) h some =
    let rest = has_word-within text (i + 1) (d ∷ word) (and_parts (is_byte text i c) _ h).1 (omega arith) in
    omega arith

-- a text may be cut after a byte of ASCII
pub boundary_after_byte : (text : List ℕ) (i c : ℕ) → IsUtf8 text → c < 128 → is_byte text i c ≡ true → IsCharBoundary text (i + 1)
boundary_after_byte text i c utf8 small h =
    let parts = and_parts _ _ h in
    let at = eqb-true (byte text i) c parts.1 in
    IsCharBoundary-after_ascii text i utf8 (ltb-true i (length text) parts.0) (omega arith)

pub byte_within : (text : List ℕ) (i c : ℕ) → is_byte text i c ≡ true → i < length text
byte_within text i c h = ltb-true i (length text) (and_parts _ _ h).0

pub blanks_rise : (text : List ℕ) (n i : ℕ) → i ≤ blanks_from text n i
blanks_rise text zero i = omega arith
blanks_rise text (suc n) i =
    let same : i ≤ i = omega arith in
    let more = blanks_rise text n (i + blank_length text i) in
    let later : i ≤ blanks_from text n (i + blank_length text i) = omega (arith, more) in
    cond_both (nat_eq (blank_length text i) 0) i (blanks_from text n (i + blank_length text i)) (λ k. i ≤ k) (λ _. same) (λ _. later)

-- the place after blanks is no earlier one
pub skip_rises : (text : List ℕ) (i : ℕ) → i ≤ skip text i
unfolding skip
skip_rises text i = blanks_rise text (length text) i

no_byte : (text : List ℕ) (i c : ℕ) → length text ≤ i → is_byte text i c ≡ false
no_byte text i c past = ap (λ b. b && nat_eq (byte text i) c) (le-ltb i (length text) past)

no_blank : (text : List ℕ) (i : ℕ) → length text ≤ i → blank_length text i ≡ 0
unfolding blank_length
no_blank text i past = rw (no_byte text i 32 past, no_byte text i 10 past, no_byte text i 13 past) refl

-- as many steps as there are bytes suffice
blanks_end : (text : List ℕ) (n i : ℕ) → length text ≤ i + n → ReadsBlanks text i (blanks_from text n i)
blanks_end text zero i enough = none (no_blank text i (omega (arith, enough)))
blanks_end text (suc n) i enough =
    let length = blank_length text i in
    elim (cases_lt 0 length) [
      | inl some ↦
          let ne : length ≡ 0 → ⊥ = λ e. omega (arith, e, some) in
          let step : blanks_from text (suc n) i ≡ blanks_from text n (i + length) = ap (λ b. cond b i (blanks_from text n (i + length))) (ne_eqb length 0 ne) in
          subst (λ k. ReadsBlanks text i k) (sym step) (one ne (blanks_end text n (i + length) (omega (arith, enough, some))))
      | inr less ↦
          let nothing : length ≡ 0 = omega (arith, less) in
          subst (λ k. ReadsBlanks text i k) (sym (blanks_from-none text (suc n) i nothing)) (none nothing)
    ]

skip_reads : (text : List ℕ) (i : ℕ) → ReadsBlanks text i (skip text i)
unfolding skip
skip_reads text i = blanks_end text (length text) i (omega arith)

read_once : {text : List ℕ} {i j k : ℕ} → ReadsBlanks text i j → ReadsBlanks text i k → j ≡ k
read_once (none e) (none f) = refl
read_once (none e) (one ne q) = absurd (ne e)
read_once (one ne p) (none e) = absurd (ne e)
read_once (one ne p) (one me q) = read_once p q

pub blanks_read_once : BlanksReadOnce
blanks_read_once text i j = (
  λ reads. read_once reads (skip_reads text i),
  λ is. subst (λ k. ReadsBlanks text i k) (sym is) (skip_reads text i),
)
