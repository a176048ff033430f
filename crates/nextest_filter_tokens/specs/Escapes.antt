-- The escapes of texts, by the places after their backslashes.
use Rattle.std.specs.Prelude.{ℕ, zero, suc, ◌+◌, ◌-◌, ◌*◌, ◌<◌, ◌≤◌, Bool, true, false, ◌&&◌, ◌||◌, List, length, nat_eq, nat_le, nat_lt, if◌then◌else◌, Option, Some, None}
use Rattle.std.specs.Str.{IsCharBoundary}
use Rattle.nextest_filter_tokens.specs.Bytes.{byte, is_byte}
use Rattle.nextest_filter_tokens.specs.declared.escapes.Escape.{Escape}
use Rattle.nextest_filter_tokens.specs.declared.escapes.Escape.TheVariants.{Means, Invalid}

-- the value of a hexadecimal digit; 16 of any other byte
abbrev pub digit_value : ℕ → ℕ
digit_value c =
    if nat_le 48 c && nat_le c 57 then c - 48 else (if nat_le 97 c && nat_le c 102 then c - 87 else (if nat_le 65 c && nat_le c 70 then c - 55 else 16))

-- the code of a character, and none of a surrogate
abbrev pub is_scalar : ℕ → Bool
is_scalar c = nat_lt c 0xd800 || (nat_le 0xe000 c && nat_lt c 0x110000)

-- the end of an escape by a code: its brace, after a digit, where the code is a character's
abbrev pub closed_at : List ℕ → Bool → ℕ → ℕ → Escape
closed_at text some code i = if some && is_byte text i 125 && is_scalar code then Means code (i + 1) else Invalid

-- a digit stands at the place
abbrev pub is_digit_at : List ℕ → ℕ → Bool
is_digit_at text i = nat_lt i (length text) && nat_lt (digit_value (byte text i)) 16

-- digits up to a brace, at most so many more, after the code of those before
abbrev pub digits_from : List ℕ → ℕ → Bool → ℕ → ℕ → Escape
digits_from text zero some code i = closed_at text some code i
digits_from text (suc left) some code i =
    if is_digit_at text i then (if nat_lt 0x10_ffff code then Invalid else digits_from text left true (code * 16 + digit_value (byte text i)) (i + 1)) else closed_at text some code i

-- what a sign means after a backslash
abbrev pub signed_escape : ℕ → Option ℕ
signed_escape c = if nat_eq c 92 || nat_eq c 47 || nat_eq c 41 || nat_eq c 44 then Some c else None

-- what a letter or a sign means after a backslash
abbrev pub named_escape : ℕ → Option ℕ
named_escape c =
    if nat_eq c 110 then Some 10 else (if nat_eq c 114 then Some 13 else (if nat_eq c 116 then Some 9 else (if nat_eq c 98 then Some 8 else (if nat_eq c 102 then Some 12 else signed_escape c))))

abbrev pub named_at : Option ℕ → ℕ → Escape
named_at (Some c) i = Means c i
named_at None i = Invalid

-- the character that an escape means, and the place after it (from nextest's documents)
abbrev pub escape_at : List ℕ → ℕ → Escape
escape_at text i =
    if is_byte text i 117 then (if is_byte text (i + 1) 123 then digits_from text 6 false 0 (i + 2) else Invalid) else (if nat_lt i (length text) then named_at (named_escape (byte text i)) (i + 1) else Invalid)

-- an escape from i on ends within the text, where the text may be cut
abbrev pub EndsWithin : List ℕ → ℕ → Escape → Type 0
EndsWithin text i (Means c j) = (i < j) × (j ≤ length text) × IsCharBoundary text j
EndsWithin text i Invalid = Unit {0}
