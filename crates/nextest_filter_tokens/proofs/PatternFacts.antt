-- Patterns are read in runs, and in one way alone.
use Rattle.std.proofs.Common.{◌≡◌, ℕ, zero, suc, ◌+◌, ◌-◌, ◌<◌, ◌≤◌, true, false, not, inl, inr, List, [], ◌∷◌, ◌++◌, length, take, drop, nat_lt, slice_range, refl, sym, ◌∙◌, ap, subst, arith, append_assoc, append-nil, add-zero}
use Rattle.std.proofs.lemmas.Bool.{and_parts, and_cases, false≢true, eqb-true, ltb-true, lt-ltb, not-true, not-false}
use Rattle.std.proofs.lemmas.List.{drop_more}
use Rattle.std.proofs.lemmas.Str.{IsCharBoundary-after_ascii}
use Rattle.std.specs.Str.{IsUtf8, IsCharBoundary}
use Rattle.nextest_filter_tokens.specs.Bytes.{byte, is_byte}
use Rattle.nextest_filter_tokens.specs.Patterns.{is_escaped_slash, is_pattern_byte, ReadsPattern, closed, slash, other}
use Rattle.nextest_filter_tokens.specs.Texts.{PatternsReadOnce}

module _ (text : List ℕ) where
  byte_within : (i c : ℕ) → is_byte text i c ≡ true → i < length text
  byte_within i c h = ltb-true i (length text) (and_parts _ _ h).0

  run_within : (i : ℕ) → is_pattern_byte text i ≡ true → i < length text
  run_within i h = ltb-true i (length text) (and_parts _ _ h).0

  no_slash : (i : ℕ) → is_pattern_byte text i ≡ true → is_byte text i 47 ≡ true → ⊥
  no_slash i p h =
      false≢true (sym (not-true _ (and_parts (not (is_byte text i 47)) _ (and_parts (nat_lt i (length text)) _ p).1).0) ∙ h)

  no_escape : (i : ℕ) → is_pattern_byte text i ≡ true → is_escaped_slash text i ≡ true → ⊥
  no_escape i p h =
      false≢true (sym (not-true _ (and_parts (not (is_byte text i 47)) _ (and_parts (nat_lt i (length text)) _ p).1).1) ∙ h)

  -- a byte is no slash and no backslash at once
  apart : (i : ℕ) → is_byte text i 47 ≡ true → is_escaped_slash text i ≡ true → ⊥
  apart i s e =
      let a = eqb-true (byte text i) 47 (and_parts _ _ s).1 in
      let b = eqb-true (byte text i) 92 (and_parts _ _ (and_parts (is_byte text i 92) _ e).0).1 in
      absurd (omega arith)

  -- where no such byte stands within the text, and no slash, an escaped slash stands
  pub escape_here : (i : ℕ) → is_pattern_byte text i ≡ false → i < length text → is_byte text i 47 ≡ false → is_escaped_slash text i ≡ true
  escape_here i stops lt none =
      elim (and_cases (nat_lt i (length text)) _ stops) [
        | inl a ↦ absurd (false≢true (sym a ∙ lt-ltb i (length text) lt))
        | inr b ↦
            elim (and_cases (not (is_byte text i 47)) _ b) [
              | inl s ↦ absurd (false≢true (sym none ∙ not-false _ s))
              | inr e ↦ not-false _ e
            ]
      ]

  pub run_read : (n i : ℕ) {xs : List ℕ} {j : ℕ} → ((k : ℕ) → i ≤ k → k < i + n → is_pattern_byte text k ≡ true) → ReadsPattern text (i + n) xs j → ReadsPattern text i (take n (drop i text) ++ xs) j
  run_read zero i {xs = xs} {j = j} each r = subst (λ k. ReadsPattern text k xs j) (add-zero i) r
  run_read (suc n) i {xs = xs} {j = j} each r =
      let here = each i (omega arith) (omega arith) in
      let same : i + suc n ≡ (i + 1) + n = omega arith in
      let rest = run_read n (i + 1) (λ k low high. each k (omega arith) (omega arith)) (subst (λ k. ReadsPattern text k xs j) same r) in
      rw (drop_more text i 0 (run_within i here)) (other here rest)

  pub read_past_run : (n i : ℕ) {zs : List ℕ} {j : ℕ} → ((k : ℕ) → i ≤ k → k < i + n → is_pattern_byte text k ≡ true) → ReadsPattern text i zs j → (ys : List ℕ) × (zs ≡ take n (drop i text) ++ ys) × ReadsPattern text (i + n) ys j
  read_past_run zero i {zs = zs} {j = j} each r = (zs, refl, subst (λ k. ReadsPattern text k zs j) (sym (add-zero i)) r)
  read_past_run (suc n) i each (closed s) = absurd (no_slash i (each i (omega arith) (omega arith)) s)
  read_past_run (suc n) i each (slash e r) = absurd (no_escape i (each i (omega arith) (omega arith)) e)
  read_past_run (suc n) i {j = j} each (other {xs = xs} p r) =
      let w = read_past_run n (i + 1) (λ k low high. each k (omega arith) (omega arith)) r in
      let same : (i + 1) + n ≡ i + suc n = omega arith in
      (w.0, rw (drop_more text i 0 (run_within i p)) (ap (λ t. byte text i ∷ t) w.1), subst (λ k. ReadsPattern text k w.0 j) same w.2)

  -- a pattern that is read in part: what is left, and what has been read
  pub record IsPart (start at : ℕ) (value : List ℕ) : Type 0 where
    pub back : (xs : List ℕ) (j : ℕ) → ReadsPattern text at xs j → ReadsPattern text start (value ++ xs) j
    pub on : (zs : List ℕ) (j : ℕ) → ReadsPattern text start zs j → (xs : List ℕ) × (zs ≡ value ++ xs) × ReadsPattern text at xs j

  pub run_between : (start at end : ℕ) (value : List ℕ) → at ≤ end → ((k : ℕ) → at ≤ k → k < end → is_pattern_byte text k ≡ true) → IsPart start at value → IsPart start end (value ++ slice_range text at end)
  run_between start at end value le each part =
      let n = end - at in
      let same : at + (end - at) ≡ end = omega arith in
      let plain : (k : ℕ) → at ≤ k → k < at + (end - at) → is_pattern_byte text k ≡ true = λ k low high. each k low (omega arith) in
      record {
        back = λ xs j r. rw append_assoc (part.back _ j (run_read (end - at) at plain (subst (λ k. ReadsPattern text k xs j) (sym same) r)));
        on = λ zs j r.
            let w = part.on zs j r in
            let v = read_past_run (end - at) at plain w.2 in
            (v.0, w.1 ∙ ap (λ t. value ++ t) v.1 ∙ sym (append_assoc value _ _), subst (λ k. ReadsPattern text k v.0 j) same v.2);
      }

  -- what is read at an escaped slash
  past_slash : (at : ℕ) {zs : List ℕ} {j : ℕ} → is_escaped_slash text at ≡ true → ReadsPattern text at zs j → (xs : List ℕ) × (zs ≡ 47 ∷ xs) × ReadsPattern text (at + 2) xs j
  past_slash at e (closed s) = absurd (apart at s e)
  past_slash at e (slash {xs = xs} f r) = (xs, refl, r)
  past_slash at e (other p r) = absurd (no_escape at p e)

  pub slash_taken : (start at : ℕ) (value : List ℕ) → is_escaped_slash text at ≡ true → IsPart start at value → IsPart start (at + 2) (value ++ 47 ∷ [])
  slash_taken start at value e part = record {
    back = λ xs j r. rw append_assoc (part.back (47 ∷ xs) j (slash e r));
    on = λ zs j r.
        let w = part.on zs j r in
        let v = past_slash at e w.2 in
        (v.0, w.1 ∙ ap (λ t. value ++ t) v.1 ∙ sym (append_assoc value (47 ∷ []) v.0), v.2);
  }

  pub part_closed : (start at : ℕ) (value : List ℕ) → is_byte text at 47 ≡ true → IsPart start at value → ReadsPattern text start value at
  part_closed start at value end part =
      subst (λ xs. ReadsPattern text start xs at) (append-nil value) (part.back [] at (closed end))

  -- nothing is read from the end
  nothing_past : (at : ℕ) {xs : List ℕ} {j : ℕ} → length text ≤ at → ReadsPattern text at xs j → ⊥
  nothing_past at le (closed s) = absurd (omega (arith, byte_within at 47 s))
  nothing_past at le (slash e r) = absurd (omega (arith, byte_within at 92 (and_parts _ _ e).0))
  nothing_past at le (other p r) = absurd (omega (arith, run_within at p))

  pub part_open : (start at : ℕ) (value : List ℕ) → length text ≤ at → IsPart start at value → (zs : List ℕ) (j : ℕ) → ReadsPattern text start zs j → ⊥
  part_open start at value le part zs j r = nothing_past at le (part.on zs j r).2

  pub slash_within : (at : ℕ) → is_escaped_slash text at ≡ true → at + 2 ≤ length text
  slash_within at e = omega (arith, byte_within (at + 1) 47 (and_parts (is_byte text at 92) _ e).1)

  pub boundary_after_slash : (at : ℕ) → IsUtf8 text → is_escaped_slash text at ≡ true → IsCharBoundary text (at + 2)
  boundary_after_slash at utf8 e =
      let second = (and_parts (is_byte text at 92) _ e).1 in
      let is = eqb-true (byte text (at + 1)) 47 (and_parts _ _ second).1 in
      let same : at + 1 + 1 ≡ at + 2 = omega arith in
      subst (λ k. IsCharBoundary text k) same (IsCharBoundary-after_ascii text (at + 1) utf8 (byte_within (at + 1) 47 second) (omega arith))

  pub read_once : {i j k : ℕ} {xs ys : List ℕ} → ReadsPattern text i xs j → ReadsPattern text i ys k → (xs ≡ ys) × (j ≡ k)
  read_once (closed s) (closed t) = (refl, refl)
  read_once (closed s) (slash e r) = absurd (apart _ s e)
  read_once (closed s) (other p r) = absurd (no_slash _ p s)
  read_once (slash e r) (closed s) = absurd (apart _ s e)
  read_once (slash e r) (slash f t) =
      let w = read_once r t in
      (ap (λ l. 47 ∷ l) w.0, w.1)
  read_once (slash e r) (other p t) = absurd (no_escape _ p e)
  read_once (other p r) (closed s) = absurd (no_slash _ p s)
  read_once (other p r) (slash e t) = absurd (no_escape _ p e)
  read_once (other {i = i} p r) (other q t) =
      let w = read_once r t in
      (ap (λ l. byte text i ∷ l) w.0, w.1)

pub patterns_read_once : PatternsReadOnce
patterns_read_once text i j k xs ys r s = read_once text r s
