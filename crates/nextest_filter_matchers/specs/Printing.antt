-- How matchers are printed.
use Rattle.std.specs.Prelude.{ℕ, Bool, true, false, ◌&&◌, ◌||◌, not, List, [], ◌∷◌, ◌++◌, codes, nat_eq, nat_le, if◌then◌else◌}
use Rattle.std.specs.Str.{chars}
use Rattle.std.specs.Char.{encode_utf8}
use Rattle.std.specs.List.{flat_map}
use Rattle.std.specs.Fmt.{digits}
use Rattle.nextest_filter_matchers.specs.Matchers.{Matcher, Equal, Contains, Glob, Regex}

-- a character as it stands in a text of a filter
abbrev pub printed_character : ℕ → List ℕ
printed_character c =
    if nat_eq c 47 || nat_eq c 41 || nat_eq c 44 || nat_eq c 92 then 92 ∷ (c ∷ []) else (if nat_eq c 10 then codes "\\n" else (if nat_eq c 13 then codes "\\r" else (if nat_eq c 9 then codes "\\t" else (if nat_le 32 c && nat_le c 126 then c ∷ [] else codes "\\u{" ++ (digits 16 false c ++ codes "}")))))

-- a text as it stands in a filter (from nextest's documents)
abbrev pub printed_text : List ℕ → List ℕ
printed_text text = flat_map printed_character (chars text)

-- a character of a pattern between slashes: a slash is escaped, unless it is already
abbrev pub pattern_character : Bool → ℕ → List ℕ
pattern_character escaped c = if nat_eq c 47 && not escaped then codes "\\/" else encode_utf8 c

-- a pattern between slashes, its first character escaped or not (from nextest's documents)
abbrev pub printed_pattern : Bool → List ℕ → List ℕ
printed_pattern escaped [] = []
printed_pattern escaped (c ∷ pattern) = pattern_character escaped c ++ printed_pattern (nat_eq c 92 && not escaped) pattern

-- whether what follows these characters of a pattern is escaped
abbrev pub escaped_after : Bool → List ℕ → Bool
escaped_after escaped [] = escaped
escaped_after escaped (c ∷ pattern) = escaped_after (nat_eq c 92 && not escaped) pattern

-- the sign of a matcher, unless it is implicit
abbrev pub printed_sign : ℕ → Bool → List ℕ
printed_sign sign true = []
printed_sign sign _ = sign ∷ []

-- how a matcher stands in a filter (from nextest's documents)
abbrev pub matcher_text : Matcher → List ℕ
matcher_text (Equal text implicit) = printed_sign 61 implicit ++ printed_text text
matcher_text (Contains text implicit) = printed_sign 126 implicit ++ printed_text text
matcher_text (Glob text tokens implicit) = printed_sign 35 implicit ++ printed_text text
matcher_text (Regex pattern) = codes "/" ++ (printed_pattern false (chars pattern) ++ codes "/")
