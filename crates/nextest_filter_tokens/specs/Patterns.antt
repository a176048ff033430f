-- The patterns of matchers, between two places of a filter.
use Rattle.std.specs.Prelude.{◌≡◌, ℕ, ◌+◌, Bool, true, ◌&&◌, not, List, [], ◌∷◌, length, nat_lt}
use Rattle.nextest_filter_tokens.specs.Bytes.{byte, is_byte}

-- a slash that a backslash stands before
abbrev pub is_escaped_slash : List ℕ → ℕ → Bool
is_escaped_slash text i = is_byte text i 92 && is_byte text (i + 1) 47

-- a byte of a pattern that stands for itself
abbrev pub is_pattern_byte : List ℕ → ℕ → Bool
is_pattern_byte text i = nat_lt i (length text) && (not (is_byte text i 47) && not (is_escaped_slash text i))

-- from a place after a slash, the bytes of a pattern, up to the slash that ends it (from nextest's documents)
pub data ReadsPattern (text : List ℕ) : ℕ → List ℕ → ℕ → Type 0 where
  closed : {i : ℕ} → is_byte text i 47 ≡ true → ReadsPattern text i [] i
  slash : {i j : ℕ} {xs : List ℕ} → is_escaped_slash text i ≡ true → ReadsPattern text (i + 2) xs j → ReadsPattern text i (47 ∷ xs) j
  other : {i j : ℕ} {xs : List ℕ} → is_pattern_byte text i ≡ true → ReadsPattern text (i + 1) xs j → ReadsPattern text i (byte text i ∷ xs) j
