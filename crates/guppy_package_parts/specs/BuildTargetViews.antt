use Rattle.list_facts.specs.Texts.{texts}
use Rattle.workspace_record.specs.Records.{Target}
use Rattle.guppy_package_parts.specs.BuildTargets.{TargetId, Library, BuildScript, Binary, Example, Test, Benchmark, BuiltAs, LibraryOrExample, ProcMacro, ABinary}
use Rattle.guppy_package_parts.specs.declared.build_target.BuildTargetId.{BuildTargetId}
use Rattle.guppy_package_parts.specs.declared.build_target.BuildTargetId.TheVariants as id
use Rattle.guppy_package_parts.specs.declared.build_target.BuildTargetKind.{BuildTargetKind}
use Rattle.guppy_package_parts.specs.declared.build_target.BuildTargetKind.TheVariants as kind
use Rattle.guppy_package_parts.specs.declared.build_target.BuildTarget.{BuildTarget}

-- what contracts see of an id
abbrev pub id_view : BuildTargetId → TargetId
id_view id.Library = Library
id_view id.BuildScript = BuildScript
id_view (id.Binary name) = Binary name.now
id_view (id.Example name) = Example name.now
id_view (id.Test name) = Test name.now
id_view (id.Benchmark name) = Benchmark name.now

-- what contracts see of a kind
abbrev pub kind_view : BuildTargetKind → BuiltAs
kind_view (kind.LibraryOrExample crate_types) = LibraryOrExample (texts crate_types.now)
kind_view kind.ProcMacro = ProcMacro
kind_view kind.Binary = ABinary

-- what contracts see of a target: its row
abbrev pub target_view : BuildTarget → Target
target_view target = target.row.now
