-- How commas and blanks part the words of `--features`.
use Rattle.std.specs.Prelude.{◌≡◌, ℕ, ◌==◌, Bool, true, false, ◌||◌, List, [], ◌∷◌, ◌++◌}
use Rattle.std.specs.Char.{encode_utf8, is_whitespace}
use Rattle.std.specs.List.{filter}
use Rattle.std.specs.Str.{NoCharPasses}
use Rattle.workspace_record.specs.Records.{Text}

-- a comma or a blank parts words
abbrev pub parts_words : ℕ → Bool
parts_words c = c == 44 || is_whitespace c

-- the text begins with the piece, behind which a comma or a blank stands, and then the rest
pub record IsCut (text piece rest : Text) : Type 0 where
  pub whole : NoCharPasses parts_words piece
  pub mark : ℕ
  pub parts : parts_words mark ≡ true
  pub cut : text ≡ piece ++ (encode_utf8 mark ++ rest)

-- the text is these pieces, with a comma or a blank between each and the next, and none in them
-- (from Cargo's reference, "Features")
abbrev pub ArePieces : Text → List Text → Type 0
ArePieces text [] = ⊥
ArePieces text (piece ∷ []) = (text ≡ piece) × NoCharPasses parts_words piece
ArePieces text (piece ∷ next ∷ pieces) = (rest : Text) × IsCut text piece rest × ArePieces rest (next ∷ pieces)

-- something stands in the piece
abbrev pub is_word : Text → Bool
is_word [] = false
is_word (_ ∷ _) = true

-- the words of a text are its pieces in which something stands (from Cargo's reference, "Features")
pub record AreWords (text : Text) (words : List Text) : Type 0 where
  pub pieces : List Text
  pub cut : ArePieces text pieces
  pub kept : words ≡ filter is_word pieces

-- the words of the texts, text by text (from Cargo's reference, "Features")
abbrev pub AreWordsOf : List Text → List Text → Type 0
AreWordsOf [] words = words ≡ []
AreWordsOf (text ∷ texts) words = (own : List Text) × (others : List Text) × AreWords text own × AreWordsOf texts others × (words ≡ own ++ others)
