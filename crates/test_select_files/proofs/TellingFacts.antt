-- What a write of a failure's lines leaves on standard error.
use Rattle.std.proofs.Common.{◌≡◌, ◌⊎◌, inl, inr, sym, List, [], ℕ, Option, IfSome, Result, Ok, Err, codes}
use mathlib.Core.List.{append-nil}
use Rattle.list_facts.specs.Writers.{Writes}
use Rattle.test_select_files.specs.Telling.{Tells}

module _ {T E : Type 0} (lines old new : Option (List ℕ)) (told : List ℕ) where
  -- what was written of what is told is a beginning of it
  tells : (r : Result T E) → (IfSome lines (λ text. told ≡ text) ⊎ (told ≡ codes "out of memory\n")) → Writes old new r told → Tells lines old new
  tells (Ok x) is written = record {
    told = told;
    is_told = is;
    rest = [];
    begun = record { front = told; whole = sym (append-nil told); added = written };
  }
  tells (Err e) is written = record { told = told; is_told = is; rest = written.0; begun = written.1 }

  -- the lines themselves were written, of a text that holds them
  pub tells_lines : (r : Result T E) → IfSome lines (λ text. told ≡ text) → Writes old new r told → Tells lines old new
  tells_lines r is written = tells r (inl is) written

  pub tells_memory : (r : Result T E) → told ≡ codes "out of memory\n" → Writes old new r told → Tells lines old new
  tells_memory r is written = tells r (inr is) written
