use Rattle.guppy_package_parts.specs.declared.dependency_direction.DependencyDirection.{DependencyDirection}
use Rattle.guppy_package_parts.specs.declared.dependency_direction.DependencyDirection.TheVariants.{Forward, Reverse}

-- the other direction
abbrev pub opposite_of : DependencyDirection → DependencyDirection
opposite_of Forward = Reverse
opposite_of Reverse = Forward
