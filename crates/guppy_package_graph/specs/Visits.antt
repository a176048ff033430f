-- Visitors: the steps that they make.
pub use Rattle.numbered_graph.specs.Asking.{Chain}
use Rattle.std.specs.Prelude.{Bool}

-- the same steps
pub record SameSteps {S X : Type 0} (P Q : S → X → Bool → S → Type 0) : Type 0 where
  pub there : (s : S) (x : X) (b : Bool) (t : S) → P s x b t → Q s x b t
  pub back : (s : S) (x : X) (b : Bool) (t : S) → Q s x b t → P s x b t
