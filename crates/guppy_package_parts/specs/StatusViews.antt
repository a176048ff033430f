use Rattle.std.specs.Prelude.{List}
use Rattle.workspace_record.specs.Records.{Text}
use Rattle.guppy_package_parts.specs.LineViews.{lines_of}
use Rattle.guppy_package_parts.specs.Statuses.{StatusValue, IsNever, IsAlways, Depends, given_specs}
use Rattle.guppy_package_parts.specs.declared.platform_status.PlatformEval.{PlatformEval}
use Rattle.guppy_package_parts.specs.declared.platform_status.PlatformStatus.{PlatformStatus}
use Rattle.guppy_package_parts.specs.declared.platform_status.PlatformStatus.TheVariants.{Never, Always, PlatformDependent}
use Rattle.guppy_package_parts.specs.declared.platform_status.TargetSpecs.{TargetSpecs}

-- the specs that are evaluated, in the order of their lines
abbrev pub eval_specs : PlatformEval → List Text
eval_specs eval = given_specs (lines_of eval.lines)

-- what contracts see of a status
abbrev pub status_view : PlatformStatus → StatusValue
status_view Never = IsNever
status_view Always = IsAlways
status_view (PlatformDependent eval) = Depends (eval_specs eval)

-- the specs that are still to come
abbrev pub specs_left : TargetSpecs → List Text
specs_left specs = given_specs (lines_of specs.left)
