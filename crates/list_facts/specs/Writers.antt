-- What a write of a whole text leaves in the writer. `None` is a writer that tells nothing of its contents.
use Rattle.std.specs.Prelude.{◌≡◌, ℕ, List, ◌++◌, Option, Result, Ok, Err}
use Rattle.std.specs.Io.KnownBytes.{Appends}

-- the writer grew by a beginning of the text, after which the rest is left
pub record AddsUpTo (old new : Option (List ℕ)) (text rest : List ℕ) : Type 0 where
  pub front : List ℕ
  pub whole : text ≡ front ++ rest
  pub added : Appends old new front

-- the whole text was appended, or after a fault some beginning of it
abbrev pub Writes : {T E : Type 0} → Option (List ℕ) → Option (List ℕ) → Result T E → List ℕ → Type 0
Writes old new (Ok x) text = Appends old new text
Writes old new (Err e) text = (rest : List ℕ) × AddsUpTo old new text rest
