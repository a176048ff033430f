-- The texts of matchers, between two places of a filter.
use Rattle.std.specs.Prelude.{◌≡◌, ℕ, ◌+◌, Bool, true, false, ◌&&◌, ◌||◌, not, List, [], ◌∷◌, ◌++◌, length, nat_eq, nat_lt}
use Rattle.std.specs.Char.{encode_utf8}
use Rattle.nextest_filter_tokens.specs.Bytes.{byte, is_byte}
use Rattle.nextest_filter_tokens.specs.Escapes.{escape_at}
use Rattle.nextest_filter_tokens.specs.Patterns.{ReadsPattern}
use Rattle.nextest_filter_tokens.specs.declared.escapes.Escape.TheVariants.{Means}

-- no text goes on at a place: a comma, a closing parenthesis or the end
abbrev pub is_text_end : List ℕ → ℕ → Bool
is_text_end text i = not (nat_lt i (length text)) || nat_eq (byte text i) 41 || nat_eq (byte text i) 44

-- a byte that stands for itself
abbrev pub is_plain : List ℕ → ℕ → Bool
is_plain text i = not (is_text_end text i) && not (nat_eq (byte text i) 92)

-- from a place, the bytes that a text means, up to its end (from nextest's documents)
pub data ReadsText (text : List ℕ) : ℕ → List ℕ → ℕ → Type 0 where
  ended : {i : ℕ} → is_text_end text i ≡ true → ReadsText text i [] i
  plain : {i j : ℕ} {xs : List ℕ} → is_plain text i ≡ true → ReadsText text (i + 1) xs j → ReadsText text i (byte text i ∷ xs) j
  escaped : {i m c j : ℕ} {xs : List ℕ} → is_text_end text i ≡ false → is_byte text i 92 ≡ true → escape_at text (i + 1) ≡ Means c m → ReadsText text m xs j → ReadsText text i (encode_utf8 c ++ xs) j

-- a text is read in one way alone
abbrev pub TextsReadOnce : Type 0
TextsReadOnce =
    (text : List ℕ) (i j k : ℕ) (xs ys : List ℕ) → ReadsText text i xs j → ReadsText text i ys k → (xs ≡ ys) × (j ≡ k)

-- from one place on, a pattern is read in one way alone
abbrev pub PatternsReadOnce : Type 0
PatternsReadOnce =
    (text : List ℕ) (i j k : ℕ) (xs ys : List ℕ) → ReadsPattern text i xs j → ReadsPattern text i ys k → (xs ≡ ys) × (j ≡ k)
