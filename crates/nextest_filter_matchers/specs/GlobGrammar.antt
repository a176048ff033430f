-- What the text of a glob may be: a relation of texts and globs, and one of texts and the reasons why they are none.
use Rattle.std.specs.Prelude.{◌≡◌, ℕ, ◌≤◌, ◌<◌, ◌⊎◌, ◌↔◌, Bool, true, false, List, [], ◌∷◌, ◌++◌, map, Ok, Err}
use Rattle.std.specs.List.{flat_map}
use Rattle.nextest_filter_matchers.specs.Globs.{Glob, Token, Empty, Single, Then, Either, One, Character}
use Rattle.nextest_filter_matchers.specs.GlobReading.{ClassOutcome, Closed, BadClass, Piece, Ends, Stands, Opens, Separates, Closes, Fails, Part, Tokens, Alternates, class_of, piece_of, read_glob}
use Rattle.nextest_filter_matchers.specs.declared.glob_error.GlobError.{GlobError}
use Rattle.nextest_filter_matchers.specs.declared.glob_error.GlobError.TheVariants.{UnclosedClass, InvalidRange, UnopenedAlternates, UnclosedAlternates}

-- each of them is such, one after another
abbrev pub Each : {X : Type 0} → (X → Type 0) → List X → Type 0
Each Such [] = Unit {0}
Each Such (x ∷ xs) = Such x × Each Such xs

-- a range of a class as it is written: its first character, and those up to which a `-` draws it, one after another
pub record Range : Type 0 where
  pub first : ℕ
  pub drawn : List ℕ

-- the last of the characters, or that before them
abbrev pub last_of : ℕ → List ℕ → ℕ
last_of first [] = first
last_of first (c ∷ more) = last_of c more

-- from its first character to the last one up to which it is drawn
abbrev pub range_of : Range → ℕ × ℕ
range_of range = (range.first, last_of range.first range.drawn)

abbrev pub drawn_text : List ℕ → List ℕ
drawn_text drawn = flat_map (λ c. 45 ∷ (c ∷ [])) drawn

abbrev pub range_text : Range → List ℕ
range_text range = range.first ∷ drawn_text range.drawn

-- each character up to which it is drawn is no bracket and not below its first
abbrev pub IsDrawn : Range → Type 0
IsDrawn range = Each (λ c. (c ≡ 93 → ⊥) × (range.first ≤ c)) range.drawn

-- it begins with no bracket and no `-`, which end a class and draw a range
abbrev pub IsLater : Range → Type 0
IsLater range = (range.first ≡ 93 → ⊥) × (range.first ≡ 45 → ⊥) × IsDrawn range

-- ranges of a class: the first may begin with any character
abbrev pub AreRanges : List Range → Type 0
AreRanges [] = ⊥
AreRanges (range ∷ ranges) = IsDrawn range × Each IsLater ranges

-- a `-` that draws on nothing, at the end of a class
abbrev pub dash_text : Bool → List ℕ
dash_text true = 45 ∷ []
dash_text false = []

abbrev pub dash_range : Bool → List (ℕ × ℕ)
dash_range true = (45, 45) ∷ []
dash_range false = []

-- a class after its bracket and its sign (after globset's documents)
pub record IsClass (ranges : List (ℕ × ℕ)) (text rest : List ℕ) : Type 0 where
  pub written : List Range
  pub dash : Bool
  pub are : AreRanges written
  pub spelled : text ≡ flat_map range_text written ++ (dash_text dash ++ 93 ∷ rest)
  pub meant : ranges ≡ map range_of written ++ dash_range dash

-- a class that nothing closes (after globset's documents)
pub record IsUnclosed (text : List ℕ) : Type 0 where
  pub written : List Range
  pub dash : Bool
  pub are : AreRanges written ⊎ ((written ≡ []) × (dash ≡ false))
  pub spelled : text ≡ flat_map range_text written ++ dash_text dash

-- the first character of the last range
abbrev pub first_of_last : ℕ → List Range → ℕ
first_of_last first [] = first
first_of_last first (range ∷ ranges) = first_of_last range.first ranges

-- a class whose last range is drawn to a character below its first (after globset's documents)
pub record IsMisdrawn (text : List ℕ) : Type 0 where
  pub written : List Range
  pub to : ℕ
  pub more : List ℕ
  pub are : AreRanges written
  pub below : to < first_of_last 0 written
  pub open_still : to ≡ 93 → ⊥
  pub spelled : text ≡ flat_map range_text written ++ 45 ∷ (to ∷ more)

-- what is read of a class is what it may be
abbrev pub IsClassOutcome : List ℕ → ClassOutcome → Type 0
IsClassOutcome text (Closed ranges rest) = IsClass ranges text rest
IsClassOutcome text (BadClass UnclosedClass) = IsUnclosed text
IsClassOutcome text (BadClass InvalidRange) = IsMisdrawn text
IsClassOutcome text (BadClass _) = ⊥

-- the tokens of an alternate end before `,` and `}`, those of a glob at its end; the rest of the text
abbrev pub EndsTokens : Bool → Piece → List ℕ → List ℕ → Type 0
EndsTokens false Ends text rest = rest ≡ []
EndsTokens true (Separates next) text rest = rest ≡ text
EndsTokens true (Closes next) text rest = rest ≡ text
EndsTokens inside piece text rest = ⊥

-- a token stands there, before this text; outside braces `,` is one
abbrev pub IsToken : Bool → Piece → Token → List ℕ → Type 0
IsToken inside piece token text = (piece ≡ Stands token text) ⊎ ((inside ≡ false) × (token ≡ One (Character 44)) × (piece ≡ Separates text))

-- a token, and then such a text
abbrev pub TokenThen : Bool → Bool → Token → (List ℕ → Type 0) → List ℕ → Type 0
TokenThen front inside token More text = (next : List ℕ) × IsToken inside (piece_of front text) token next × More next

-- a brace, and then such a text
abbrev pub BraceThen : Bool → (List ℕ → Type 0) → List ℕ → Type 0
BraceThen front Inner text = (inner : List ℕ) × (piece_of front text ≡ Opens inner) × Inner inner

-- the last of some alternates ends before a character that is no comma, and that is left out
abbrev pub LastUpTo : (List ℕ → Type 0) → List ℕ → Type 0
LastUpTo Rest rest = (c : ℕ) × (c ≡ 44 → ⊥) × Rest (c ∷ rest)

-- what stands at the beginning of a text up to a rest reads as the glob: tokens and groups one after another, or the alternates of a group
-- (after globset's documents)
abbrev pub ReadsGlob : Glob → Part → List ℕ → List ℕ → Type 0
ReadsGlob Empty (Tokens front inside) text rest = EndsTokens inside (piece_of front text) text rest
ReadsGlob Empty Alternates text rest = LastUpTo (EndsTokens true (piece_of false text) text) rest
ReadsGlob (Single token) part text rest = ⊥
ReadsGlob (Then (Single token) more) (Tokens front inside) text rest =
    TokenThen front inside token (λ next. ReadsGlob more (Tokens false inside) next rest) text
ReadsGlob (Then (Single token) more) Alternates text rest =
    LastUpTo (λ all. TokenThen false true token (λ next. ReadsGlob more (Tokens false true) next all) text) rest
ReadsGlob (Then group more) (Tokens front inside) text rest =
    BraceThen front (λ inner. (next : List ℕ) × ReadsGlob group Alternates inner next × ReadsGlob more (Tokens false inside) next rest) text
ReadsGlob (Then group more) Alternates text rest =
    LastUpTo (λ all. BraceThen false (λ inner. (next : List ℕ) × ReadsGlob group Alternates inner next × ReadsGlob more (Tokens false true) next all) text) rest
ReadsGlob (Either one others) (Tokens front inside) text rest = ⊥
ReadsGlob (Either one others) Alternates text rest =
    (next : List ℕ) × ReadsGlob one (Tokens false true) text (44 ∷ next) × ReadsGlob others Alternates next rest

-- why no token, no group and no end stands there
abbrev pub IsFault : Bool → Piece → GlobError → Type 0
IsFault true Ends error = error ≡ UnclosedAlternates
IsFault false (Closes text) error = error ≡ UnopenedAlternates
IsFault inside (Fails fault) error = error ≡ fault
IsFault inside piece error = ⊥

-- behind what reads as this beginning of a glob the text cannot be read on, for this reason (after globset's documents)
abbrev pub IsRefused : Glob → Part → List ℕ → GlobError → Type 0
IsRefused Empty (Tokens front inside) text error = IsFault inside (piece_of front text) error
IsRefused Empty Alternates text error = IsFault true (piece_of false text) error
IsRefused (Single token) part text error = ⊥
IsRefused (Then (Single token) more) (Tokens front inside) text error =
    TokenThen front inside token (λ next. IsRefused more (Tokens false inside) next error) text
IsRefused (Then (Single token) more) Alternates text error =
    TokenThen false true token (λ next. IsRefused more (Tokens false true) next error) text
IsRefused (Then group more) (Tokens front inside) text error =
    BraceThen front (λ inner. IsRefused group Alternates inner error ⊎ ((next : List ℕ) × ReadsGlob group Alternates inner next × IsRefused more (Tokens false inside) next error)) text
IsRefused (Then group more) Alternates text error =
    BraceThen false (λ inner. IsRefused group Alternates inner error ⊎ ((next : List ℕ) × ReadsGlob group Alternates inner next × IsRefused more (Tokens false true) next error)) text
IsRefused (Either one others) (Tokens front inside) text error = ⊥
IsRefused (Either one others) Alternates text error =
    (next : List ℕ) × ReadsGlob one (Tokens false true) text (44 ∷ next) × IsRefused others Alternates next error

-- a text reads as one glob, or is refused for one reason, and that is what `read_glob` answers
abbrev pub GlobsReadOnce : Type 0
GlobsReadOnce =
    (text : List ℕ) →
    ((glob : Glob) → (read_glob text ≡ Ok glob) ↔ ReadsGlob glob (Tokens true false) text [])
    × ((error : GlobError) → (read_glob text ≡ Err error) ↔ ((before : Glob) × IsRefused before (Tokens true false) text error))
    × IsClassOutcome text (class_of text)
    × ((ranges : List (ℕ × ℕ)) (rest : List ℕ) → IsClass ranges text rest → class_of text ≡ Closed ranges rest)
    × (IsUnclosed text → class_of text ≡ BadClass UnclosedClass)
    × (IsMisdrawn text → class_of text ≡ BadClass InvalidRange)
