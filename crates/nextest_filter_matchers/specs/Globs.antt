-- Globs, and which texts they match.
use Rattle.std.specs.Prelude.{◌≡◌, ℕ, ◌+◌, ◌<◌, ◌≤◌, Bool, true, ◌⊎◌, ◌&&◌, not, List, [], ◌∷◌, length, nat_eq, nat_le, slice_index_or}
use Rattle.std.specs.List.{list_any}

-- what one character may be; of a class, whether it is the complement, and its ranges
pub data CharacterSet : Type 0 where
  Character : ℕ → CharacterSet
  Any : CharacterSet
  Class : Bool → List (ℕ × ℕ) → CharacterSet

-- what a part of a text may be
pub data Token : Type 0 where
  One : CharacterSet → Token
  AnyText : Token
  LeadingDirectories : Token
  InnerDirectories : Token
  TrailingDirectories : Token

-- a glob: tokens one after another, and alternates
pub data Glob : Type 0 where
  Empty : Glob
  Single : Token → Glob
  Then : Glob → Glob → Glob
  Either : Glob → Glob → Glob

abbrev pub is_in_range : ℕ → ℕ × ℕ → Bool
is_in_range c range = nat_le range.0 c && nat_le c range.1

-- the character is one of the set
abbrev pub is_in_set : CharacterSet → ℕ → Bool
is_in_set (Character d) c = nat_eq c d
is_in_set Any c = true
is_in_set (Class true ranges) c = not (list_any (is_in_range c) ranges)
is_in_set (Class _ ranges) c = list_any (is_in_range c) ranges

-- these tokens, and then more
abbrev pub tokens_then : List Token → Glob → Glob
tokens_then [] more = more
tokens_then (token ∷ tokens) more = Then (Single token) (tokens_then tokens more)

-- of the characters of a text from the place i to the place j
module _ (text : List ℕ) where
  -- one character of the set
  abbrev pub IsOne : CharacterSet → ℕ → ℕ → Type 0
  IsOne set i j = (i < length text) × (is_in_set set (slice_index_or text i 0) ≡ true) × (j ≡ i + 1)

  -- a slash
  abbrev pub IsSlash : ℕ → ℕ → Type 0
  IsSlash i j = IsOne (Character 47) i j

  -- any characters
  abbrev pub IsText : ℕ → ℕ → Type 0
  IsText i j = (i ≤ j) × (j ≤ length text)

  -- nothing, or any characters and a slash
  abbrev pub IsDirectories : ℕ → ℕ → Type 0
  IsDirectories i j = (i ≡ j) ⊎ ((m : ℕ) × IsText i m × IsSlash m j)

  -- what suits a token (after globset's documents)
  abbrev pub SuitsToken : Token → ℕ → ℕ → Type 0
  SuitsToken (One set) i j = IsOne set i j
  SuitsToken AnyText i j = IsText i j
  SuitsToken LeadingDirectories i j = IsDirectories i j
  SuitsToken InnerDirectories i j = (m : ℕ) × IsSlash i m × IsDirectories m j
  SuitsToken TrailingDirectories i j = (m : ℕ) × IsSlash i m × IsText m j

  -- what suits a glob: a part for each token, one alternate of several (after globset's documents)
  abbrev pub Suits : Glob → ℕ → ℕ → Type 0
  Suits Empty i j = i ≡ j
  Suits (Single token) i j = SuitsToken token i j
  Suits (Then a b) i j = (m : ℕ) × Suits a i m × Suits b m j
  Suits (Either a b) i j = Suits a i j ⊎ Suits b i j

-- the glob matches the whole text, given by its characters (after globset's documents)
abbrev pub GlobMatches : Glob → List ℕ → Type 0
GlobMatches glob text = Suits text glob 0 (length text)

-- the glob whose tokens are these characters
abbrev pub spelled : List ℕ → Glob
spelled [] = Empty
spelled (c ∷ text) = Then (Single (One (Character c))) (spelled text)
