-- Texts are read in runs, and in one way alone.
use Rattle.std.proofs.Common.{◌≡◌, ℕ, zero, suc, ◌+◌, ◌-◌, ◌<◌, ◌≤◌, true, false, not, List, [], ◌∷◌, ◌++◌, length, take, drop, inl, inr, nat_eq, refl, sym, ◌∙◌, ap, subst, arith, append_assoc, append-nil, add-zero, slice_range}
use Rattle.std.proofs.lemmas.Bool.{and_parts, false≢true, eqb-true, not-true, not-false, and_cases, and_from, lt-ltb}
use Rattle.std.proofs.lemmas.Bool.Decides.{nat_tests}
use Rattle.std.proofs.lemmas.List.{drop_more}
use Rattle.std.proofs.lemmas.Str.{IsCharBoundary-after_ascii}
use Rattle.std.specs.Str.{IsUtf8, IsCharBoundary}
use Rattle.std.specs.Char.{encode_utf8}
use Rattle.nextest_filter_tokens.specs.Bytes.{byte, is_byte}
use Rattle.nextest_filter_tokens.specs.Escapes.{escape_at}
use Rattle.nextest_filter_tokens.specs.declared.escapes.Escape.TheVariants.{Means, Invalid}
use Rattle.nextest_filter_tokens.specs.Texts.{is_text_end, is_plain, ReadsText, ended, plain, escaped, TextsReadOnce}

module _ (text : List ℕ) where
  -- a plain byte ends no text and is no backslash
  plain_goes_on : (i : ℕ) → is_plain text i ≡ true → is_text_end text i ≡ false
  plain_goes_on i h = not-true _ (and_parts _ _ h).0

  pub within_text : (i : ℕ) → is_text_end text i ≡ false → i < length text
  within_text i h = grind (arith, nat_tests)

  plain_within : (i : ℕ) → is_plain text i ≡ true → i < length text
  plain_within i h = within_text i (plain_goes_on i h)

  -- where a text goes on with no plain byte, a backslash stands
  backslash_at : (i : ℕ) → is_plain text i ≡ false → is_text_end text i ≡ false → is_byte text i 92 ≡ true
  backslash_at i bare on =
      elim (and_cases (not (is_text_end text i)) (not (nat_eq (byte text i) 92)) bare) [
        | inl a ↦ absurd (false≢true (sym on ∙ not-false _ a))
        | inr b ↦ and_from _ _ (lt-ltb i (length text) (within_text i on)) (not-false _ b)
      ]

  -- a run of plain bytes, and what is read after it
  pub run_read : (n i : ℕ) {xs : List ℕ} {j : ℕ} → ((k : ℕ) → i ≤ k → k < i + n → is_plain text k ≡ true) → ReadsText text (i + n) xs j → ReadsText text i (take n (drop i text) ++ xs) j
  run_read zero i {xs = xs} {j = j} each r = subst (λ k. ReadsText text k xs j) (add-zero i) r
  run_read (suc n) i {xs = xs} {j = j} each r =
      let here = each i (omega arith) (omega arith) in
      let same : i + suc n ≡ (i + 1) + n = omega arith in
      let rest = run_read n (i + 1) (λ k low high. each k (omega arith) (omega arith)) (subst (λ k. ReadsText text k xs j) same r) in
      rw (drop_more text i 0 (plain_within i here)) (plain here rest)

  -- what is read from the beginning of such a run begins with it
  pub read_past_run : (n i : ℕ) {zs : List ℕ} {j : ℕ} → ((k : ℕ) → i ≤ k → k < i + n → is_plain text k ≡ true) → ReadsText text i zs j → (ys : List ℕ) × (zs ≡ take n (drop i text) ++ ys) × ReadsText text (i + n) ys j
  read_past_run zero i {zs = zs} {j = j} each r = (zs, refl, subst (λ k. ReadsText text k zs j) (sym (add-zero i)) r)
  read_past_run (suc n) i each (ended e) =
      absurd (false≢true (sym (plain_goes_on i (each i (omega arith) (omega arith))) ∙ e))
  read_past_run (suc n) i {j = j} each (plain {xs = xs} p r) =
      let w = read_past_run n (i + 1) (λ k low high. each k (omega arith) (omega arith)) r in
      let same : (i + 1) + n ≡ i + suc n = omega arith in
      (w.0, rw (drop_more text i 0 (plain_within i p)) (ap (λ t. byte text i ∷ t) w.1), subst (λ k. ReadsText text k w.0 j) same w.2)
  read_past_run (suc n) i each (escaped o b e r) =
      let here = each i (omega arith) (omega arith) in
      let at = eqb-true (byte text i) 92 (and_parts _ _ b).1 in
      let bare = not-true _ (and_parts _ _ here).1 in
      absurd (false≢true (sym bare ∙ (and_parts _ _ b).1))

  -- at a place where no plain byte stands
  pub data Turn (i : ℕ) (zs : List ℕ) (j : ℕ) : Type 0 where
    at_end : is_text_end text i ≡ true → zs ≡ [] → j ≡ i → Turn i zs j
    at_escape : {m c : ℕ} {xs : List ℕ} → escape_at text (i + 1) ≡ Means c m → zs ≡ encode_utf8 c ++ xs → ReadsText text m xs j → Turn i zs j

  pub turn_of : (i : ℕ) {zs : List ℕ} {j : ℕ} → is_plain text i ≡ false → ReadsText text i zs j → Turn i zs j
  turn_of i bare (ended e) = at_end e refl refl
  turn_of i bare (plain p r) = absurd (false≢true (sym bare ∙ p))
  turn_of i bare (escaped o b e r) = at_escape e refl r

  -- a text that is read in part: what is left, and what has been read
  pub record IsPart (start at : ℕ) (value : List ℕ) : Type 0 where
    pub back : (xs : List ℕ) (j : ℕ) → ReadsText text at xs j → ReadsText text start (value ++ xs) j
    pub on : (zs : List ℕ) (j : ℕ) → ReadsText text start zs j → (xs : List ℕ) × (zs ≡ value ++ xs) × ReadsText text at xs j

  pub nothing_read : (start : ℕ) → IsPart start start []
  nothing_read start = record {
    back = λ xs j r. r;
    on = λ zs j r. (zs, refl, r);
  }

  pub run_taken : (start at n : ℕ) (value : List ℕ) → ((k : ℕ) → at ≤ k → k < at + n → is_plain text k ≡ true) → IsPart start at value → IsPart start (at + n) (value ++ take n (drop at text))
  run_taken start at n value each part = record {
    back = λ xs j r. rw append_assoc (part.back _ j (run_read n at each r));
    on = λ zs j r.
        let w = part.on zs j r in
        let v = read_past_run n at each w.2 in
        (v.0, w.1 ∙ ap (λ t. value ++ t) v.1 ∙ sym (append_assoc value _ _), v.2);
  }

  pub escape_taken : (start at m c : ℕ) (value : List ℕ) → is_plain text at ≡ false → is_text_end text at ≡ false → escape_at text (at + 1) ≡ Means c m → IsPart start at value → IsPart start m (value ++ encode_utf8 c)
  escape_taken start at m c value bare on means part = record {
    back = λ xs j r. rw append_assoc (part.back _ j (escaped on (backslash_at at bare on) means r));
    on = λ zs j r.
        let w = part.on zs j r in
        elim (turn_of at bare w.2) [
          | at_end e z s ↦ absurd (false≢true (sym on ∙ e))
          | at_escape {m = n} {c = d} {xs = xs} e z s ↦
              let p : c ≡ d = cc in
              let q : m ≡ n = cc in
              (xs, w.1 ∙ ap (λ t. value ++ t) (z ∙ ap (λ k. encode_utf8 k ++ xs) (sym p)) ∙ sym (append_assoc value _ _), subst (λ k. ReadsText text k xs j) (sym q) s)
        ];
  }

  -- a part up to the end of a text is the text
  pub part_ended : (start at : ℕ) (value : List ℕ) → is_text_end text at ≡ true → IsPart start at value → ReadsText text start value at
  part_ended start at value end part =
      subst (λ xs. ReadsText text start xs at) (append-nil value) (part.back [] at (ended end))

  -- a backslash that escapes nothing spoils the text
  pub part_spoiled : (start at : ℕ) (value : List ℕ) → is_plain text at ≡ false → is_text_end text at ≡ false → escape_at text (at + 1) ≡ Invalid → IsPart start at value → (zs : List ℕ) (j : ℕ) → ReadsText text start zs j → ⊥
  part_spoiled start at value bare on invalid part zs j r =
      let w = part.on zs j r in
      elim (turn_of at bare w.2) [
        | at_end e z s ↦ absurd (false≢true (sym on ∙ e))
        | at_escape e z s ↦ cc
      ]

  -- the bytes between two places, all plain, are a run
  pub run_between : (start at end : ℕ) (value : List ℕ) → at ≤ end → ((k : ℕ) → at ≤ k → k < end → is_plain text k ≡ true) → IsPart start at value → IsPart start end (value ++ slice_range text at end)
  run_between start at end value le each part =
      let same : at + (end - at) ≡ end = omega arith in
      subst (λ k. IsPart start k (value ++ slice_range text at end)) same (run_taken start at (end - at) value (λ k low high. each k low (omega arith)) part)

  -- a text may be cut after a backslash
  pub boundary_after_backslash : (at : ℕ) → IsUtf8 text → is_plain text at ≡ false → is_text_end text at ≡ false → IsCharBoundary text (at + 1)
  boundary_after_backslash at utf8 bare on =
      let here = eqb-true (byte text at) 92 (and_parts _ _ (backslash_at at bare on)).1 in
      IsCharBoundary-after_ascii text at utf8 (within_text at on) (omega arith)

  not_backslash : (i : ℕ) → is_plain text i ≡ true → is_byte text i 92 ≡ true → ⊥
  not_backslash i p b = false≢true (sym (not-true _ (and_parts _ _ p).1) ∙ (and_parts _ _ b).1)

  -- a text is read in one way alone
  pub read_once : {i j k : ℕ} {xs ys : List ℕ} → ReadsText text i xs j → ReadsText text i ys k → (xs ≡ ys) × (j ≡ k)
  read_once (ended e) (ended f) = (refl, refl)
  read_once (ended e) (plain p r) = absurd (false≢true (sym (plain_goes_on _ p) ∙ e))
  read_once (ended e) (escaped o b m r) = absurd (false≢true (sym o ∙ e))
  read_once (plain p r) (ended e) = absurd (false≢true (sym (plain_goes_on _ p) ∙ e))
  read_once (plain {i = i} p r) (plain q s) =
      let w = read_once r s in
      (ap (λ t. byte text i ∷ t) w.0, w.1)
  read_once (plain p r) (escaped o b m s) = absurd (not_backslash _ p b)
  read_once (escaped o b m r) (ended e) = absurd (false≢true (sym o ∙ e))
  read_once (escaped o b m r) (plain p s) = absurd (not_backslash _ p b)
  read_once (escaped {m = m} {c = c} {xs = xs} o b e r) (escaped {m = n} {c = d} {j = k} {xs = ys} p q f s) =
      let same : c ≡ d = cc in
      let at : n ≡ m = cc in
      let w = read_once r (subst (λ l. ReadsText text l ys k) at s) in
      (ap (λ l. encode_utf8 l ++ xs) same ∙ ap (λ t. encode_utf8 d ++ t) w.0, w.1)

pub texts_read_once : TextsReadOnce
texts_read_once text i j k xs ys r s = read_once text r s
