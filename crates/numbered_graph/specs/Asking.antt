-- Asking about one thing after another.
use Rattle.std.specs.Prelude.{◌≡◌, List, [], ◌∷◌}

-- what was shown, each with its answer, leads by steps from the one state to the other
abbrev pub Chain : {S X A : Type 0} → (S → X → A → S → Type 0) → S → List (X × A) → S → Type 0
Chain R s [] t = t ≡ s
Chain R s (o ∷ os) t = (m : _) × R s o.0 o.1 m × Chain R m os t
