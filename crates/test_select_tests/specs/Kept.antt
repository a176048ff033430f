-- Parts of lists.
use Rattle.std.specs.Prelude.{List, Contains, ◌↔◌, ◌⊎◌}

-- the list holds exactly those elements of the other one of which this holds
abbrev pub HoldsThose : {X : Type 0} → (X → Type 0) → List X → List X → Type 0
HoldsThose {X} P all kept = (x : X) → Contains kept x ↔ (Contains all x × P x)

-- what is not denied of an element holds
abbrev pub IsDecided : {X : Type 0} → (X → Type 0) → List X → Type 0
IsDecided {X} P all = (x : X) → Contains all x → ((P x → ⊥) → ⊥) → P x

-- those elements were kept of which this holds, and of each it is known
pub record AreThose {X : Type 0} (P : X → Type 0) (all kept : List X) : Type 0 where
  pub those : HoldsThose P all kept
  pub decided : IsDecided P all

-- to a list those were added of which this holds
abbrev pub Adds : {X : Type 0} → (X → Type 0) → List X → List X → Type 0
Adds {X} P old new = (x : X) → Contains new x ↔ (Contains old x ⊎ P x)
