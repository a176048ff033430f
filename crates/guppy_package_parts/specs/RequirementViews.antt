-- What is required of a dependency, and where it is on.
use Rattle.std.specs.Prelude.{List, filter}
use Rattle.workspace_record.specs.Records.{Line}
use Rattle.guppy_package_parts.specs.Lines.{is_kind, is_optional, is_required}
use Rattle.guppy_package_parts.specs.Statuses.{IsStatusOf, StatusValue, specs_of}
use Rattle.guppy_package_parts.specs.StatusViews.{status_view}
use Rattle.guppy_package_parts.specs.declared.dependency_req.DependencyReq.{DependencyReq}
use Rattle.guppy_package_parts.specs.declared.dependency_req.EnabledStatus.{EnabledStatus}

-- the lines of the kind (from guppy's `DependencyReq`)
abbrev pub requirement_lines : DependencyReq → List Line
requirement_lines req = filter (is_kind req.kind) req.lines.now

-- where it is required, and where it is optional
abbrev pub required_value : EnabledStatus → StatusValue
required_value status = status_view status.required

abbrev pub optional_value : EnabledStatus → StatusValue
optional_value status = status_view status.optional

-- the statuses of the required ones of these lines, and of the optional ones (from guppy's `DependencyReq`)
pub record HasStatus (lines : List Line) (status : EnabledStatus) : Type 0 where
  pub required : IsStatusOf (specs_of (filter is_required lines)) (required_value status)
  pub optional : IsStatusOf (specs_of (filter is_optional lines)) (optional_value status)
