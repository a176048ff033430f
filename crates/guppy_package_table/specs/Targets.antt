-- Targets by their id, and the sorts of targets that a package is asked about.
use Rattle.std.specs.Prelude.{◌≡◌, ℕ, Bool, true, false, List, All, Some, slice_get, take}
use Rattle.workspace_record.specs.Records.{Target}
use Rattle.workspace_record.specs.declared.kinds.TargetKind.{TargetKind}
use Rattle.workspace_record.specs.declared.kinds.TargetKind.TheVariants as kind
use Rattle.guppy_package_parts.specs.BuildTargets.{TargetId, id_of}

-- the target is called so (from guppy's `build_target`)
abbrev pub HasId : TargetId → Target → Type 0
HasId id t = id_of t.kind t.name ≡ id

-- the first target that is called so (from guppy's `build_target`)
pub record IsFirstWith (id : TargetId) (targets : List Target) (target : Target) : Type 0 where
  pub place : ℕ
  pub here : slice_get targets place ≡ Some target
  pub called : HasId id target
  pub first : All (λ t. ¬ HasId id t) (take place targets)

abbrev pub is_proc_macro_kind : TargetKind → Bool
is_proc_macro_kind kind.Lib = false
is_proc_macro_kind kind.ProcMacro = true
is_proc_macro_kind kind.Test = false
is_proc_macro_kind kind.Bench = false
is_proc_macro_kind kind.Bin = false
is_proc_macro_kind kind.Example = false
is_proc_macro_kind kind.BuildScript = false

abbrev pub is_build_script_kind : TargetKind → Bool
is_build_script_kind kind.Lib = false
is_build_script_kind kind.ProcMacro = false
is_build_script_kind kind.Test = false
is_build_script_kind kind.Bench = false
is_build_script_kind kind.Bin = false
is_build_script_kind kind.Example = false
is_build_script_kind kind.BuildScript = true

abbrev pub is_proc_macro : Target → Bool
is_proc_macro t = is_proc_macro_kind t.kind

abbrev pub is_build_script : Target → Bool
is_build_script t = is_build_script_kind t.kind
