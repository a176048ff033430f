-- Queries: where a walk begins, and which way it goes.
use Rattle.std.specs.Prelude.{◌≡◌, ◌↔◌, ℕ, ◌<◌, List, AllPairs, Contains, length}
use Rattle.numbered_graph.specs.Graphs.{GraphValue}
use Rattle.guppy_package_parts.specs.declared.dependency_direction.DependencyDirection.{DependencyDirection}
use Rattle.guppy_package_table.specs.Tables.{TableValue, numbered_links}

-- what is seen of a query: the places of its initials ascend (from guppy's queries)
pub record QueryValue : Type 0 where
  pub graph : TableValue
  pub direction : DependencyDirection
  pub initials : List ℕ

-- the places of a graph's packages with the links between them
abbrev pub places_of : TableValue → GraphValue
places_of g = record { nodes = length g.packages; links = numbered_links g }

-- the places that pass are the initials, each once in the order of the packages (from guppy's queries)
pub record AreInitials (passes : ℕ → Type 0) (initials : List ℕ) : Type 0 where
  pub ascending : AllPairs (λ u v. u < v) initials
  pub each : (v : ℕ) → Contains initials v ↔ passes v

-- the query begins at the places that pass, and goes in the direction (from guppy's queries)
pub record IsQueryOf (g : TableValue) (direction : DependencyDirection) (passes : ℕ → Type 0) (q : QueryValue) : Type 0 where
  pub graph : q.graph ≡ g
  pub directed : q.direction ≡ direction
  pub initials : AreInitials passes q.initials
