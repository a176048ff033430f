-- The bytes of a text by their places.
use Rattle.std.specs.Prelude.{ℕ, ◌+◌, Bool, ◌&&◌, ◌||◌, not, List, [], ◌∷◌, length, drop, nat_eq, nat_lt, nat_le, slice_index_or, Option, Some, None, if◌then◌else◌}
use Rattle.cargo_files.specs.declared.bytes.Run.{Run}
use Rattle.cargo_files.specs.declared.bytes.Run.TheVariants.{Blanks, Word, Quoted, Triple, Line}

-- a letter of ASCII, a digit or `_`
abbrev pub is_word_byte : ℕ → Bool
is_word_byte c =
    (nat_le 48 c && nat_le c 57) || (nat_le 65 c && nat_le c 90) || nat_eq c 95 || (nat_le 97 c && nat_le c 122)

-- the bytes of a run: blanks are spaces, and quoted is all but the quote, and a line all but its end
abbrev pub passes : Run → ℕ → Bool
passes Blanks c = nat_eq c 32
passes Word c = is_word_byte c
passes Quoted c = not (nat_eq c 34)
passes Triple c = is_word_byte c || nat_eq c 45 || nat_eq c 46
passes Line c = not (nat_eq c 10)

-- how many bytes at the front of a text are of the run
abbrev pub front : Run → List ℕ → ℕ
front run [] = 0
front run (c ∷ text) = if passes run c then front run text + 1 else 0

-- the place of the first byte from a place on that is not of the run, or the end of the text
unfoldable pub run_end : Run → List ℕ → ℕ → ℕ
run_end run text i = i + front run (drop i text)

-- the byte stands at the place
abbrev pub is_byte : List ℕ → ℕ → ℕ → Bool
is_byte text i c = nat_lt i (length text) && nat_eq (slice_index_or text i 0) c

-- the place after a byte that stands behind the blanks at a place
unfoldable pub after : List ℕ → ℕ → ℕ → Option ℕ
after text i c =
    if is_byte text (run_end Blanks text i) c then Some (run_end Blanks text i + 1) else None
