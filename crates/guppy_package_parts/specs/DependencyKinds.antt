-- The kinds of dependencies: their names, and the lines that declare them.
use Rattle.std.specs.Prelude.{codes}
use Rattle.workspace_record.specs.Records.{Text}
use Rattle.workspace_record.specs.declared.kinds.LineKind.{LineKind}
use Rattle.workspace_record.specs.declared.kinds.LineKind.TheVariants as line
use Rattle.guppy_package_parts.specs.declared.dependency_kind.DependencyKind.{DependencyKind}
use Rattle.guppy_package_parts.specs.declared.dependency_kind.DependencyKind.TheVariants.{Normal, Development, Build}

-- the name of a kind
abbrev pub kind_text : DependencyKind → Text
kind_text Normal = codes "normal"
kind_text Development = codes "dev"
kind_text Build = codes "build"

-- the kind of the lines that declare dependencies of this kind
abbrev pub line_kind_of : DependencyKind → LineKind
line_kind_of Normal = line.Normal
line_kind_of Development = line.Dev
line_kind_of Build = line.Build
