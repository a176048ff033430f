-- What standard error gets of a failure.
use Rattle.std.specs.Prelude.{◌≡◌, ◌⊎◌, Bool, true, false, IfSome, Option, codes}
use Rattle.workspace_record.specs.Records.{Text}
use Rattle.list_facts.specs.Writers.{AddsUpTo}

-- a beginning of these lines was written, where they are known; or, where there was no memory for them, one of `out of memory` (no writer says when it fails)
pub record Tells (lines old new : Option Text) : Type 0 where
  pub told : Text
  pub is_told : IfSome lines (λ text. told ≡ text) ⊎ (told ≡ codes "out of memory\n")
  pub rest : Text
  pub begun : AddsUpTo old new told rest

-- nothing was written of a denial, which the output says, and of another failure its lines
abbrev pub TellsUnless : Bool → Option Text → Option Text → Option Text → Type 0
TellsUnless true lines old new = new ≡ old
TellsUnless false lines old new = Tells lines old new
