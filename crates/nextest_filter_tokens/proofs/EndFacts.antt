-- Tokens end within their text, where it may be cut.
use Rattle.std.proofs.Common.{◌≡◌, ℕ, ◌+◌, ◌<◌, Bool, true, ◌&&◌, List, [], ◌∷◌, length, codes, nat_lt, refl, subst, arith}
use Rattle.std.proofs.lemmas.Bool.{and_parts, ltb-true, cond_both}
use Rattle.std.specs.Str.{IsUtf8}
use Rattle.nextest_filter_tokens.specs.Bytes.{IsEnd, has_word, has_whole_word, is_byte}
use Rattle.nextest_filter_tokens.specs.Heads.{HeadEndsWithin, head_at, misplaced_at, plain_set_at, sign_at}
use Rattle.nextest_filter_tokens.specs.Operators.{FoundEndsWithin, and_at, or_at}
use Rattle.nextest_filter_tokens.proofs.BlankFacts.{boundary_after_byte, byte_within}

abbrev is_ascii_word : List ℕ → Bool
is_ascii_word [] = true
is_ascii_word (c ∷ word) = nat_lt c 128 && is_ascii_word word

module _ (text : List ℕ) (utf8 : IsUtf8 text) where
  byte_ends : (i c : ℕ) → c < 128 → is_byte text i c ≡ true → IsEnd text i (i + 1)
  byte_ends i c small h =
      let inside = byte_within text i c h in
      (omega arith, omega arith, boundary_after_byte text i c utf8 small h)

  word_ends : (word : List ℕ) (i : ℕ) → 0 < length word → is_ascii_word word ≡ true → has_word text i word ≡ true → IsEnd text i (i + length word)
  word_ends [] i some ascii h = absurd (omega arith)
  word_ends (c ∷ []) i some ascii h =
      byte_ends i c (ltb-true c 128 (and_parts (nat_lt c 128) true ascii).0) (and_parts (is_byte text i c) true h).0
  word_ends (c ∷ (d ∷ word)) i some ascii h =
      let rest = word_ends (d ∷ word) (i + 1) (omega arith) (and_parts (nat_lt c 128) _ ascii).1 (and_parts (is_byte text i c) _ h).1 in
      let same : (i + 1) + length (d ∷ word) ≡ i + length (c ∷ (d ∷ word)) = omega arith in
      subst (λ k. IsEnd text i k) same (omega (arith, rest.0), rest.1, rest.2)

  whole_word_ends : (word : List ℕ) (i : ℕ) → 0 < length word → is_ascii_word word ≡ true → has_whole_word text i word ≡ true → IsEnd text i (i + length word)
  whole_word_ends word i some ascii h = word_ends word i some ascii (and_parts (has_word text i word) _ h).0

  misplaced_ends : (i : ℕ) → HeadEndsWithin text i (misplaced_at text i)
  unfolding misplaced_at
  misplaced_ends i =
      cond_both _ _ _ (HeadEndsWithin text i) (whole_word_ends (codes "and") i (omega arith) refl) (λ _. cond_both _ _ _ (HeadEndsWithin text i) (whole_word_ends (codes "or") i (omega arith) refl) (λ _. cond_both _ _ _ (HeadEndsWithin text i) (whole_word_ends (codes "AND") i (omega arith) refl) (λ _. cond_both _ _ _ (HeadEndsWithin text i) (whole_word_ends (codes "OR") i (omega arith) refl) (λ _. cond_both _ _ _ (HeadEndsWithin text i) (word_ends (codes "&&") i (omega arith) refl) (λ _. cond_both _ _ _ (HeadEndsWithin text i) (word_ends (codes "||") i (omega arith) refl) (λ _. cond_both _ _ _ (HeadEndsWithin text i) (whole_word_ends (codes "NOT") i (omega arith) refl) (λ _. tt)))))))

  sign_ends : (i : ℕ) → HeadEndsWithin text i (sign_at text i)
  unfolding sign_at
  sign_ends i =
      cond_both _ _ _ (HeadEndsWithin text i) (whole_word_ends (codes "not") i (omega arith) refl) (λ _. cond_both _ _ _ (HeadEndsWithin text i) (word_ends (codes "!") i (omega arith) refl) (λ _. cond_both _ _ _ (HeadEndsWithin text i) (word_ends (codes "(") i (omega arith) refl) (λ _. misplaced_ends i)))

  plain_set_ends : (i : ℕ) → HeadEndsWithin text i (plain_set_at text i)
  unfolding plain_set_at
  plain_set_ends i =
      cond_both _ _ _ (HeadEndsWithin text i) (word_ends (codes "platform") i (omega arith) refl) (λ _. cond_both _ _ _ (HeadEndsWithin text i) (word_ends (codes "default") i (omega arith) refl) (λ _. cond_both _ _ _ (HeadEndsWithin text i) (word_ends (codes "all") i (omega arith) refl) (λ _. cond_both _ _ _ (HeadEndsWithin text i) (word_ends (codes "none") i (omega arith) refl) (λ _. sign_ends i))))

  pub head_ends : (i : ℕ) → HeadEndsWithin text i (head_at text i)
  unfolding head_at
  head_ends i =
      cond_both _ _ _ (HeadEndsWithin text i) (word_ends (codes "package") i (omega arith) refl) (λ _. cond_both _ _ _ (HeadEndsWithin text i) (word_ends (codes "deps") i (omega arith) refl) (λ _. cond_both _ _ _ (HeadEndsWithin text i) (word_ends (codes "rdeps") i (omega arith) refl) (λ _. cond_both _ _ _ (HeadEndsWithin text i) (word_ends (codes "kind") i (omega arith) refl) (λ _. cond_both _ _ _ (HeadEndsWithin text i) (word_ends (codes "binary_id") i (omega arith) refl) (λ _. cond_both _ _ _ (HeadEndsWithin text i) (word_ends (codes "binary") i (omega arith) refl) (λ _. cond_both _ _ _ (HeadEndsWithin text i) (word_ends (codes "test") i (omega arith) refl) (λ _. cond_both _ _ _ (HeadEndsWithin text i) (word_ends (codes "group") i (omega arith) refl) (λ _. cond_both _ _ _ (HeadEndsWithin text i) (word_ends (codes "feature") i (omega arith) refl) (λ _. plain_set_ends i)))))))))

  pub or_ends : (i : ℕ) → FoundEndsWithin text i (or_at text i)
  unfolding or_at
  or_ends i =
      cond_both _ _ _ (FoundEndsWithin text i) (word_ends (codes "||") i (omega arith) refl) (λ _. cond_both _ _ _ (FoundEndsWithin text i) (whole_word_ends (codes "OR") i (omega arith) refl) (λ _. cond_both _ _ _ (FoundEndsWithin text i) (whole_word_ends (codes "or") i (omega arith) refl) (λ _. cond_both _ _ _ (FoundEndsWithin text i) (word_ends (codes "|") i (omega arith) refl) (λ _. cond_both _ _ _ (FoundEndsWithin text i) (word_ends (codes "+") i (omega arith) refl) (λ _. tt)))))

  pub and_ends : (i : ℕ) → FoundEndsWithin text i (and_at text i)
  unfolding and_at
  and_ends i =
      cond_both _ _ _ (FoundEndsWithin text i) (word_ends (codes "&&") i (omega arith) refl) (λ _. cond_both _ _ _ (FoundEndsWithin text i) (whole_word_ends (codes "AND") i (omega arith) refl) (λ _. cond_both _ _ _ (FoundEndsWithin text i) (whole_word_ends (codes "and") i (omega arith) refl) (λ _. cond_both _ _ _ (FoundEndsWithin text i) (word_ends (codes "&") i (omega arith) refl) (λ _. cond_both _ _ _ (FoundEndsWithin text i) (word_ends (codes "-") i (omega arith) refl) (λ _. tt)))))
