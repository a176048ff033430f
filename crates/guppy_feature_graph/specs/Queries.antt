-- Queries: where a walk over features begins, and which way it goes.
use Rattle.std.specs.Prelude.{◌≡◌, ◌↔◌, ℕ, ◌<◌, Bool, List, All, AllPairs, Contains, IsTrue}
use Rattle.numbered_graph.specs.Sets.{has}
use Rattle.guppy_package_parts.specs.declared.dependency_direction.DependencyDirection.{DependencyDirection}
use Rattle.guppy_feature_nodes.specs.Graphs.{FeatureGraphValue}

-- what is seen of a query: the numbers of its initials ascend
pub record QueryValue : Type 0 where
  pub graph : FeatureGraphValue
  pub direction : DependencyDirection
  pub initials : List ℕ

-- the numbers that pass are the initials, each once in ascending order
pub record AreInitials (passes : ℕ → Type 0) (initials : List ℕ) : Type 0 where
  pub ascending : AllPairs (λ u v. u < v) initials
  pub each : (v : ℕ) → Contains initials v ↔ passes v

-- the query begins at the nodes that pass, and goes in the direction (from guppy's `FeatureQuery`)
pub record IsQueryOf (g : FeatureGraphValue) (direction : DependencyDirection) (passes : ℕ → Type 0) (q : QueryValue) : Type 0 where
  pub graph : q.graph ≡ g
  pub directed : q.direction ≡ direction
  pub initials : AreInitials passes q.initials

-- the starts are the nodes of the set
pub record AreStarts (nodes : ℕ) (included : List Bool) (starts : List ℕ) : Type 0 where
  pub within : All (λ v. v < nodes) starts
  pub initials : AreInitials (λ v. IsTrue (has included v)) starts
