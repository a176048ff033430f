-- Tokens without braces, and what is left of a text behind their first characters.
use Rattle.std.specs.Prelude.{◌≡◌, ℕ, ◌<◌, Bool, true, false, not, ◌&&◌, ◌||◌, ◌⊎◌, List, [], ◌∷◌, drop, length, nat_eq}
use Rattle.std.specs.List.{list_any}
use Rattle.nextest_filter_matchers.specs.Globs.{Token, CharacterSet, Glob, Empty, Single, Then, Either, One, AnyText, LeadingDirectories, InnerDirectories, TrailingDirectories, Character, is_in_set}

-- the first of the characters is one of the set, and the others are such
abbrev pub IsOneAnd : CharacterSet → (List ℕ → Type 0) → List ℕ → Type 0
IsOneAnd set Such [] = ⊥
IsOneAnd set Such (c ∷ text) = (is_in_set set c ≡ true) × Such text

-- the characters are such, if that may be here, or those behind any of them or, of folders, behind a slash
-- (after globset's documents)
abbrev pub IsBehind : Bool → Bool → (List ℕ → Type 0) → List ℕ → Type 0
IsBehind of_folders here Such [] = (here ≡ true) × Such []
IsBehind of_folders here Such (c ∷ text) = ((here ≡ true) × Such (c ∷ text)) ⊎ IsBehind of_folders (not of_folders || nat_eq c 47) Such text

-- the characters suit the tokens, one after another (after globset's documents)
abbrev pub SuitsTokens : List Token → List ℕ → Type 0
SuitsTokens [] text = text ≡ []
SuitsTokens (One set ∷ tokens) text = IsOneAnd set (SuitsTokens tokens) text
SuitsTokens (AnyText ∷ tokens) text = IsBehind false true (SuitsTokens tokens) text
SuitsTokens (LeadingDirectories ∷ tokens) text = IsBehind true true (SuitsTokens tokens) text
SuitsTokens (InnerDirectories ∷ tokens) text = IsOneAnd (Character 47) (IsBehind true true (SuitsTokens tokens)) text
SuitsTokens (TrailingDirectories ∷ tokens) text = IsOneAnd (Character 47) (IsBehind false true (SuitsTokens tokens)) text

-- where single characters end: at the end of all, or before a gap that other tokens follow
pub data Stop : Type 0 where
  End : Stop
  Gap : Bool → List Token → List ℕ → Stop

-- what is left of the characters suits what is left of the tokens
abbrev pub SuitsStop : Stop → Type 0
SuitsStop End = Unit {0}
SuitsStop (Gap of_folders tokens text) = IsBehind of_folders true (SuitsTokens tokens) text

-- where the single characters at the front of the tokens end (after globset's documents)
abbrev pub stop_in : List Token → List ℕ → Stop
stop_in [] text = End
stop_in (One set ∷ tokens) text = stop_in tokens (drop 1 text)
stop_in (AnyText ∷ tokens) text = Gap false tokens text
stop_in (LeadingDirectories ∷ tokens) text = Gap true tokens text
stop_in (InnerDirectories ∷ tokens) text = Gap true tokens (drop 1 text)
stop_in (TrailingDirectories ∷ tokens) text = Gap false tokens (drop 1 text)

abbrev pub is_leading : Token → Bool
is_leading LeadingDirectories = true
is_leading token = false

-- no token but the first is one that stands at the front of a glob alone
abbrev pub leads_first : List Token → Bool
leads_first [] = true
leads_first (token ∷ tokens) = not (list_any is_leading tokens)

-- fewer tokens are left at the stop, and none of them is one of the front of a glob
abbrev pub IsFewer : List Token → Stop → Type 0
IsFewer tokens End = Unit {0}
IsFewer tokens (Gap of_folders more text) = (length more < length tokens) × (list_any is_leading more ≡ false)

-- the token of the front of a glob stands nowhere in it
abbrev pub stands_nowhere : Glob → Bool
stands_nowhere Empty = true
stands_nowhere (Single token) = not (is_leading token)
stands_nowhere (Then a b) = stands_nowhere a && stands_nowhere b
stands_nowhere (Either a b) = stands_nowhere a && stands_nowhere b

-- it stands nowhere but in front
abbrev pub stands_in_front : Glob → Bool
stands_in_front (Then (Single LeadingDirectories) more) = stands_nowhere more
stands_in_front glob = stands_nowhere glob
