-- Words and files as bytes that stand one after another.
use Rattle.std.specs.Prelude.{◌≡◌, ◌++◌, ◌∷◌, [], Contains, List, ℕ, length}
use Rattle.std.specs.Int.{from_le_bytes, w64}
use Rattle.std.specs.Str.{IsUtf8}

-- a file: its name, and what it holds
pub record File : Type 0 where
  pub name : List ℕ
  pub content : List ℕ

-- the bytes begin with a word and the zero that ends it; then comes the rest
pub record BeginsWord (bytes word rest : List ℕ) : Type 0 where
  pub whole : bytes ≡ word ++ 0 ∷ rest
  pub ended : ¬ (Contains word 0)
  pub text : IsUtf8 word

-- the bytes begin with a file: its name, a zero, its length in eight bytes, what it holds; then comes the rest
pub record BeginsFile (bytes : List ℕ) (file : File) (rest : List ℕ) : Type 0 where
  pub size : List ℕ
  pub whole : bytes ≡ file.name ++ 0 ∷ (size ++ (file.content ++ rest))
  pub ended : ¬ (Contains file.name 0)
  pub text : IsUtf8 file.name
  pub eight : length size ≡ 8
  pub says : from_le_bytes w64 size ≡ length file.content

-- the bytes are just these, one after another
pub data Follow {X : Type 0} (Begins : List ℕ → X → List ℕ → Type 0) : List ℕ → List X → Type 0 where
  nothing : Follow Begins [] []
  first : {bytes rest : List ℕ} {x : X} {xs : List X} → Begins bytes x rest → Follow Begins rest xs → Follow Begins bytes (x ∷ xs)

-- the bytes are these words
abbrev pub AreWords : List ℕ → List (List ℕ) → Type 0
AreWords = Follow BeginsWord

-- the bytes are these files
abbrev pub AreFiles : List ℕ → List File → Type 0
AreFiles = Follow BeginsFile

-- the bytes are words and files
abbrev pub IsCall : List ℕ → List ℕ → Type 0
IsCall words files = ((ws : List (List ℕ)) × AreWords words ws) × ((fs : List File) × AreFiles files fs)
