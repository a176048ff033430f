-- On which platforms lines of a manifest count, by their specs alone. A line without a spec counts on every platform.
use Rattle.std.specs.Prelude.{◌≡◌, Bool, true, false, List, [], ◌∷◌, map, Option, Some, None, not, if◌then◌else◌}
use Rattle.std.specs.Option.{is_none}
use Rattle.std.specs.List.{list_any, filter_map}
use Rattle.workspace_record.specs.Records.{Text, Line}
use Rattle.guppy_package_parts.specs.Ternaries.{greatest, ternary_of}
use Rattle.guppy_package_parts.specs.declared.enabled_ternary.EnabledTernary.{EnabledTernary}
use Rattle.guppy_package_parts.specs.declared.enabled_ternary.EnabledTernary.TheVariants.{Disabled, Enabled}

-- of a `PlatformSpec`: no platform, any, or some, each by its answers
pub data Asked : Type 0 where
  AskedAlways : Asked
  AskedAny : Asked
  AskedPlatforms : List (Text → Option Bool) → Asked

-- what the platforms answer to the spec of a line
abbrev pub spec_answer : Asked → Option Text → EnabledTernary
spec_answer asked None = Enabled
spec_answer AskedAlways (Some spec) = Disabled
spec_answer AskedAny (Some spec) = Enabled
spec_answer (AskedPlatforms answers) (Some spec) = greatest (map (λ answer. ternary_of (answer spec)) answers)

-- the value of a status: the greatest answer to the specs of its lines (from guppy's `PlatformStatus`)
abbrev pub status_of : Asked → List (Option Text) → EnabledTernary
status_of asked specs = greatest (map (spec_answer asked) specs)

-- the specs of lines
abbrev pub specs_of : List Line → List (Option Text)
specs_of lines = map (λ line. line.spec) lines

-- the specs that are there
abbrev pub given : List (Option Text) → List Text
given specs = filter_map (λ spec. spec) specs

abbrev pub given_specs : List Line → List Text
given_specs lines = given (specs_of lines)

-- of a `PlatformStatus`, with the specs that it depends on
pub data StatusValue : Type 0 where
  IsNever : StatusValue
  IsAlways : StatusValue
  Depends : List Text → StatusValue

abbrev pub is_never : StatusValue → Bool
is_never IsNever = true
is_never IsAlways = false
is_never (Depends specs) = false

abbrev pub is_always : StatusValue → Bool
is_always IsNever = false
is_always IsAlways = true
is_always (Depends specs) = false

abbrev pub is_present : StatusValue → Bool
is_present status = not (is_never status)

-- the status of lines that all have specs
abbrev pub status_of_given : List Text → StatusValue
status_of_given [] = IsNever
status_of_given (spec ∷ specs) = Depends (spec ∷ specs)

-- the status of lines with these specs: Never where there is no line, Always where a line has no spec (from guppy's documents)
abbrev pub status_from : List (Option Text) → StatusValue
status_from specs = if list_any is_none specs then IsAlways else status_of_given (given specs)

-- the specs that a status keeps, one for each line that matters
abbrev pub kept_specs : StatusValue → List (Option Text)
kept_specs IsNever = []
kept_specs IsAlways = None ∷ []
kept_specs (Depends specs) = map Some specs

-- the status is the one of lines with these specs, and has their value on every platform (from guppy's documents)
pub record IsStatusOf (specs : List (Option Text)) (status : StatusValue) : Type 0 where
  pub variant : status ≡ status_from specs
  pub value : (asked : Asked) → status_of asked (kept_specs status) ≡ status_of asked specs
