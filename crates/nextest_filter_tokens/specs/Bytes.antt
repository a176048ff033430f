-- The bytes of a text by their places.
use Rattle.std.specs.Prelude.{◌≡◌, ◌↔◌, ℕ, zero, suc, ◌+◌, ◌<◌, ◌≤◌, Bool, true, ◌&&◌, ◌||◌, not, List, [], ◌∷◌, length, nat_eq, nat_lt, nat_le, slice_index_or, if◌then◌else◌}
use Rattle.std.specs.Str.{IsCharBoundary}

-- what begins at i ends at j, within the text and where it may be cut
abbrev pub IsEnd : List ℕ → ℕ → ℕ → Type 0
IsEnd text i j = (i < j) × (j ≤ length text) × IsCharBoundary text j

-- the byte at a place; 0 past the end
abbrev pub byte : List ℕ → ℕ → ℕ
byte text i = slice_index_or text i 0

abbrev pub is_byte : List ℕ → ℕ → ℕ → Bool
is_byte text i c = nat_lt i (length text) && nat_eq (byte text i) c

-- the word stands at a place (from nextest's documents)
abbrev pub has_word : List ℕ → ℕ → List ℕ → Bool
has_word text i [] = true
has_word text i (c ∷ word) = is_byte text i c && has_word text (i + 1) word

-- a letter of ASCII, a digit or `_`
abbrev pub is_word_byte : ℕ → Bool
is_word_byte c =
    (nat_le 48 c && nat_le c 57) || (nat_le 65 c && nat_le c 90) || nat_eq c 95 || (nat_le 97 c && nat_le c 122)

-- no word goes on at a place (from nextest's documents)
abbrev pub is_word_end : List ℕ → ℕ → Bool
is_word_end text i = not (nat_lt i (length text) && is_word_byte (byte text i))

-- the word stands at a place, and no longer one
abbrev pub has_whole_word : List ℕ → ℕ → List ℕ → Bool
has_whole_word text i word = has_word text i word && is_word_end text (i + length word)

-- the length of the blank at a place: a space, a line feed, or a carriage return with its line feed
unfoldable pub blank_length : List ℕ → ℕ → ℕ
blank_length text i =
    if is_byte text i 32 || is_byte text i 10 then 1 else (if is_byte text i 13 && is_byte text (i + 1) 10 then 2 else 0)

-- the place after at most so many blanks
abbrev pub blanks_from : List ℕ → ℕ → ℕ → ℕ
blanks_from text zero i = i
blanks_from text (suc n) i = if nat_eq (blank_length text i) 0 then i else blanks_from text n (i + blank_length text i)

-- the place after the blanks (from nextest's documents)
unfoldable pub skip : List ℕ → ℕ → ℕ
skip text i = blanks_from text (length text) i

-- from a place on one blank after another, up to the place where none stands (from nextest's documents)
pub data ReadsBlanks (text : List ℕ) : ℕ → ℕ → Type 0 where
  none : {i : ℕ} → blank_length text i ≡ 0 → ReadsBlanks text i i
  one : {i j : ℕ} → (blank_length text i ≡ 0 → ⊥) → ReadsBlanks text (i + blank_length text i) j → ReadsBlanks text i j

-- from each place on the blanks end at one place, which is the one after them (from nextest's documents)
abbrev pub BlanksReadOnce : Type 0
BlanksReadOnce = (text : List ℕ) (i j : ℕ) → ReadsBlanks text i j ↔ (j ≡ skip text i)
