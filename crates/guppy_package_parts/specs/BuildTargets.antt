-- What Cargo builds from a package.
use Rattle.std.specs.Prelude.{Bool, not, List, Option, None, Some, codes, if◌then◌else◌}
use Rattle.std.specs.List.{list_any}
use Rattle.std.specs.Str.{bytes_eq}
use Rattle.workspace_record.specs.Records.{Text}
use Rattle.workspace_record.specs.declared.kinds.TargetKind.{TargetKind}
use Rattle.workspace_record.specs.declared.kinds.TargetKind.TheVariants as target

-- of a `BuildTargetId`
pub data TargetId : Type 0 where
  Library : TargetId
  BuildScript : TargetId
  Binary : Text → TargetId
  Example : Text → TargetId
  Test : Text → TargetId
  Benchmark : Text → TargetId

-- of a `BuildTargetKind`, with the crate types of a library
pub data BuiltAs : Type 0 where
  LibraryOrExample : List Text → BuiltAs
  ProcMacro : BuiltAs
  ABinary : BuiltAs

-- the id of a target of this kind and name (from Cargo's reference, "Cargo Targets"; guppy's `BuildTargetKind`)
abbrev pub id_of : TargetKind → Text → TargetId
id_of target.Lib name = Library
id_of target.ProcMacro name = Library
id_of target.Test name = Test name
id_of target.Bench name = Benchmark name
id_of target.Bin name = Binary name
id_of target.Example name = Example name
id_of target.BuildScript name = BuildScript

-- the name in an id
abbrev pub id_name : TargetId → Option Text
id_name Library = None
id_name BuildScript = None
id_name (Binary name) = Some name
id_name (Example name) = Some name
id_name (Test name) = Some name
id_name (Benchmark name) = Some name

-- some crate type is another than `bin`
abbrev pub is_more_than_binary : List Text → Bool
is_more_than_binary crate_types = list_any (λ name. not (bytes_eq (codes "bin") name)) crate_types

-- what a target of this kind with these crate types is built as
-- (from Cargo's reference, "Cargo Targets"; guppy's `BuildTargetKind`)
abbrev pub built_as : TargetKind → List Text → BuiltAs
built_as target.Lib crate_types = LibraryOrExample crate_types
built_as target.ProcMacro crate_types = ProcMacro
built_as target.Test crate_types = ABinary
built_as target.Bench crate_types = ABinary
built_as target.Bin crate_types = ABinary
built_as target.Example crate_types = if is_more_than_binary crate_types then LibraryOrExample crate_types else ABinary
built_as target.BuildScript crate_types = ABinary
