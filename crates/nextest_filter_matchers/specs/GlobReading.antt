-- How a text is read as a glob, by its characters.
use Rattle.std.specs.Prelude.{ℕ, zero, suc, ◌+◌, Bool, true, false, ◌&&◌, ◌||◌, ◌*◌, List, [], ◌∷◌, ◌++◌, drop, length, if◌then◌else◌, nat_eq, nat_lt, codes, Result, Ok, Err}
use Rattle.std.specs.List.{starts_with}
use Rattle.nextest_filter_matchers.specs.Globs.{Glob, Token, Empty, Single, Then, Either, One, AnyText, LeadingDirectories, InnerDirectories, TrailingDirectories, Character, Any, Class}
use Rattle.nextest_filter_matchers.specs.declared.glob_error.GlobError.{GlobError}
use Rattle.nextest_filter_matchers.specs.declared.glob_error.GlobError.TheVariants.{UnclosedClass, InvalidRange, UnopenedAlternates, UnclosedAlternates}

-- a class's ranges and what follows its bracket, or a fault
pub data ClassOutcome : Type 0 where
  Closed : List (ℕ × ℕ) → List ℕ → ClassOutcome
  BadClass : GlobError → ClassOutcome

-- the last range, and the `-` after it that draws on nothing
abbrev pub last_ranges : ℕ → ℕ → Bool → List (ℕ × ℕ)
last_ranges low high true = (low, high) ∷ ((45, 45) ∷ [])
last_ranges low high _ = (low, high) ∷ []

-- the rest of a class, after its ranges so far, the last range, and whether a `-` follows it that may draw it on
-- (after globset's documents)
abbrev pub class_rest : List (ℕ × ℕ) → ℕ → ℕ → Bool → List ℕ → ClassOutcome
class_rest ranges low high drawn [] = BadClass UnclosedClass
class_rest ranges low high drawn (c ∷ text) =
    if nat_eq c 93 then Closed (ranges ++ last_ranges low high drawn) text else (if drawn then (if nat_lt c low then BadClass InvalidRange else class_rest ranges low c false text) else (if nat_eq c 45 then class_rest ranges low high true text else class_rest (ranges ++ (low, high) ∷ []) c c false text))

-- a class after its bracket and its sign: the first character stands for itself
abbrev pub class_of : List ℕ → ClassOutcome
class_of [] = BadClass UnclosedClass
class_of (c ∷ text) = class_rest [] c c false text

-- what stands at the beginning of a text
pub data Piece : Type 0 where
  Ends : Piece
  Stands : Token → List ℕ → Piece
  Opens : List ℕ → Piece
  Separates : List ℕ → Piece
  Closes : List ℕ → Piece
  Fails : GlobError → Piece

abbrev pub class_piece : Bool → ClassOutcome → Piece
class_piece is_complement (Closed ranges text) = Stands (One (Class is_complement ranges)) text
class_piece is_complement (BadClass error) = Fails error

-- a class after its bracket: `!` or `^` makes it the complement
abbrev pub class_at : List ℕ → Piece
class_at [] = Fails UnclosedClass
class_at (c ∷ text) = if nat_eq c 33 || nat_eq c 94 then class_piece true (class_of text) else class_piece false (class_of (c ∷ text))

-- what one character begins
abbrev pub character_piece : ℕ → List ℕ → Piece
character_piece c text =
    if nat_eq c 63 then Stands (One Any) text else (if nat_eq c 42 then Stands AnyText text else (if nat_eq c 91 then class_at text else (if nat_eq c 123 then Opens text else (if nat_eq c 125 then Closes text else (if nat_eq c 44 then Separates text else Stands (One (Character c)) text)))))

-- what the first character begins
abbrev pub first_piece : List ℕ → Piece
first_piece [] = Ends
first_piece (c ∷ text) = character_piece c text

-- the text without the directories' stars at its beginning, which add nothing to those before them
abbrev pub past_directories : List ℕ → List ℕ
past_directories (a ∷ (b ∷ (c ∷ text))) = if nat_eq a 42 && nat_eq b 42 && nat_eq c 47 then past_directories text else a ∷ (b ∷ (c ∷ text))
past_directories text = text

-- what begins a text, at the front of the glob or not (after globset's documents)
abbrev pub piece_of : Bool → List ℕ → Piece
piece_of front text =
    if front && starts_with nat_eq text (codes "**/") then Stands LeadingDirectories (past_directories (drop 3 text)) else (if starts_with nat_eq text (codes "/**/") then Stands InnerDirectories (past_directories (drop 4 text)) else (if nat_eq (length text) 3 && starts_with nat_eq text (codes "/**") then Stands TrailingDirectories [] else first_piece text))

-- a glob and what follows it, or a fault
pub data Outcome : Type 0 where
  Reads : Glob → List ℕ → Outcome
  Refuses : GlobError → Outcome

-- what is read next: tokens, at the front or not, inside braces or not; or the alternates after a brace
pub data Part : Type 0 where
  Tokens : Bool → Bool → Part
  Alternates : Part

abbrev pub then_read : Glob → Outcome → Outcome
then_read glob (Reads more text) = Reads (Then glob more) text
then_read glob (Refuses error) = Refuses error

abbrev pub or_read : Glob → Outcome → Outcome
or_read glob (Reads other text) = Reads (Either glob other) text
or_read glob (Refuses error) = Refuses error

module _ (next : Part → List ℕ → Outcome) where
  -- the tokens after alternates
  abbrev pub after_alternates : Bool → Outcome → Outcome
  after_alternates inside (Reads glob text) = then_read glob (next (Tokens false inside) text)
  after_alternates inside (Refuses error) = Refuses error

  -- tokens from a piece on; inside braces they end before `,` and `}`
  abbrev pub tokens_from : Bool → List ℕ → Piece → Outcome
  tokens_from inside whole Ends = if inside then Refuses UnclosedAlternates else Reads Empty []
  tokens_from inside whole (Stands token text) = then_read (Single token) (next (Tokens false inside) text)
  tokens_from inside whole (Opens text) = after_alternates inside (next Alternates text)
  tokens_from inside whole (Separates text) =
      if inside then Reads Empty whole else then_read (Single (One (Character 44))) (next (Tokens false false) text)
  tokens_from inside whole (Closes text) = if inside then Reads Empty whole else Refuses UnopenedAlternates
  tokens_from inside whole (Fails error) = Refuses error

  -- further alternates after one
  abbrev pub alternates_after : Outcome → Outcome
  alternates_after (Reads glob []) = Refuses UnclosedAlternates
  alternates_after (Reads glob (c ∷ text)) = if nat_eq c 44 then or_read glob (next Alternates text) else Reads glob text
  alternates_after (Refuses error) = Refuses error

-- a part of a glob of at most so many tokens
abbrev pub read_part : ℕ → Part → List ℕ → Outcome
read_part zero part text = Refuses UnclosedAlternates
read_part (suc n) (Tokens front inside) text = tokens_from (read_part n) inside text (piece_of front text)
read_part (suc n) Alternates text = alternates_after (read_part n) (read_part n (Tokens false true) text)

abbrev pub glob_from : Outcome → Result Glob GlobError
glob_from (Reads glob text) = Ok glob
glob_from (Refuses error) = Err error

-- the glob that a text reads as, or why it is none: each token is a character or more (after globset's documents)
abbrev pub read_glob : List ℕ → Result Glob GlobError
read_glob text = glob_from (read_part (2 * length text + 1) (Tokens true false) text)
