-- The roots of a set.
use Rattle.std.specs.Prelude.{ℕ, ◌<◌, ◌↔◌, List, AllPairs, Contains, IsTrue}
use Rattle.numbered_graph.specs.Roots.{IsRoot}
use Rattle.numbered_graph.specs.Sets.{has}
use Rattle.guppy_package_parts.specs.declared.dependency_direction.DependencyDirection.{DependencyDirection}
use Rattle.guppy_package_table.specs.Tables.{numbered_links}
use Rattle.guppy_package_graph.specs.Directions.{direction_of}
use Rattle.guppy_package_graph.specs.SetValues.{SetValue}

-- the places, ascending, of the packages of the set whose component no link inside it enters from another one
-- (from guppy's `root_ids`)
pub record AreRoots (s : SetValue) (direction : DependencyDirection) (places : List ℕ) : Type 0 where
  pub ascending : AllPairs (λ u v. u < v) places
  pub each : (v : ℕ) → Contains places v ↔ (IsTrue (has s.included v) × IsRoot (direction_of direction) (numbered_links s.graph) s.included v)
