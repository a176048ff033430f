-- Two parts of a text.
use Rattle.std.specs.Prelude.{◌≡◌, ℕ, ◌<◌, List, [], ◌∷◌, ◌++◌, ◌⊎◌, drop, take}
use Rattle.std.specs.Str.{IsCharBoundary, chars}

-- the text after these characters can be parted so that what stands before is of the first sort, and what follows of the other
abbrev pub Splits : (List ℕ → Type 0) → (List ℕ → Type 0) → List ℕ → List ℕ → Type 0
Splits First Rest front [] = First front × Rest []
Splits First Rest front (c ∷ text) = (First front × Rest (c ∷ text)) ⊎ Splits First Rest (front ++ c ∷ []) text

-- the next place where a text can be parted, one character on
pub record IsNextCut (text : List ℕ) (at next : ℕ) : Type 0 where
  pub is_cut : IsCharBoundary text next
  pub further : at < next
  pub character : ℕ
  pub front : chars (take next text) ≡ chars (take at text) ++ character ∷ []
  pub back : chars (drop at text) ≡ character ∷ chars (drop next text)
