-- What `clap` is told, step by step.
use Rattle.std.proofs.Common.{◌≡◌, ◌∙◌, ◌||◌, Bool, true, false, refl, ap}

-- what was said of a command stays where an argument is its own alone
pub stays_local : (new old of_argument first : Bool) → new ≡ (old || of_argument) → of_argument ≡ false → old ≡ first → new ≡ first
stays_local new old of_argument first is own kept = is ∙ ap (λ (b : Bool). old || b) own ∙ or_no old ∙ kept
  where
    or_no : (b : Bool) → (b || false) ≡ b
    or_no true = refl
    or_no false = refl
