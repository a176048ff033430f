-- The settings of a platform.
use Rattle.std.specs.Prelude.{Bool, false, ◌&&◌, bytes_eq, is_none, Option, Some, None}
use Rattle.workspace_record.specs.Records.{Text}

-- of a `CfgSetting`
pub record Setting : Type 0 where
  pub name : Text
  pub value : Option Text

-- the value is there, and is this one
abbrev pub is_value : Text → Option Text → Bool
is_value value (Some own) = bytes_eq own value
is_value value None = false

-- a setting of this name that has no value
abbrev pub is_name : Text → Setting → Bool
is_name name s = is_none s.value && bytes_eq s.name name

-- a setting of this name that has this value
abbrev pub is_pair : Text → Text → Setting → Bool
is_pair name value s = is_value value s.value && bytes_eq s.name name
