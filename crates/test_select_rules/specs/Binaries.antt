-- The test binaries of a workspace.
use Rattle.std.specs.Prelude.{Bool, true, false, ◌&&◌, List, map, filter, codes}
use Rattle.std.specs.List.{flat_map}
use Rattle.workspace_record.specs.Records.{Text, Target, Package, Workspace}
use Rattle.workspace_record.specs.declared.kinds.TargetKind.{TargetKind}
use Rattle.workspace_record.specs.declared.kinds.TargetKind.TheVariants.{Lib, ProcMacro, Test, Bench, Bin, Example, BuildScript}
use Rattle.feature_account_rules.specs.Lines.{is_member}
use Rattle.nextest_binaries.specs.BinaryIds as ids
use Rattle.nextest_binaries.specs.declared.build_platform.BuildPlatform.{BuildPlatform}
use Rattle.nextest_binaries.specs.declared.build_platform.BuildPlatform.TheVariants as platform

-- a target of a package, its owner, which is built into a test binary under an id of its own (from nextest's binary ids)
pub record Binary : Type 0 where
  pub id : Text
  pub owner : Package
  pub target : Target

-- how nextest calls the kinds of targets
abbrev pub kind_text : TargetKind → Text
kind_text Lib = codes "lib"
kind_text ProcMacro = codes "proc-macro"
kind_text Test = codes "test"
kind_text Bench = codes "bench"
kind_text Bin = codes "bin"
kind_text Example = codes "example"
kind_text BuildScript = codes "build-script"

-- how nextest calls a binary
abbrev pub binary_id : Text → TargetKind → Text → Text
binary_id package_name kind name = ids.binary_id package_name (kind_text kind) name

-- a proc macro is built for the host
abbrev pub platform_of : TargetKind → BuildPlatform
platform_of Lib = platform.Target
platform_of ProcMacro = platform.Host
platform_of Test = platform.Target
platform_of Bench = platform.Target
platform_of Bin = platform.Target
platform_of Example = platform.Target
platform_of BuildScript = platform.Target

-- a build script has no tests
abbrev pub may_have_tests : TargetKind → Bool
may_have_tests Lib = true
may_have_tests ProcMacro = true
may_have_tests Test = true
may_have_tests Bench = true
may_have_tests Bin = true
may_have_tests Example = true
may_have_tests BuildScript = false

-- the binary of a package's target
abbrev pub binary_of : Package → Target → Binary
binary_of p t = record { id = binary_id p.name t.kind t.name; owner = p; target = t }

-- the binaries of a package: one for each target that is tested
abbrev pub binaries_of : Package → List Binary
binaries_of p = map (binary_of p) (filter (λ t. t.tested && may_have_tests t.kind) p.targets)

-- the binaries of the members, by package and then target (from nextest's binary ids)
abbrev pub binaries : Workspace → List Binary
binaries w = flat_map binaries_of (filter (λ p. is_member w p.id) w.packages)
