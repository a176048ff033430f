-- The two directions of dependencies, as directions of links between places.
use Rattle.guppy_package_parts.specs.declared.dependency_direction.DependencyDirection.{DependencyDirection}
use Rattle.guppy_package_parts.specs.declared.dependency_direction.DependencyDirection.TheVariants as dependency
use Rattle.numbered_graph.specs.declared.direction.Direction.{Direction}
use Rattle.numbered_graph.specs.declared.direction.Direction.TheVariants.{Forward, Reverse}

-- the direction of links between places
abbrev pub direction_of : DependencyDirection → Direction
direction_of dependency.Forward = Forward
direction_of dependency.Reverse = Reverse
