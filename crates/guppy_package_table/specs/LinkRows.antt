-- What a link's row says of the link.
use Rattle.std.specs.Prelude.{ℕ, Bool, map, nat_eq, if◌then◌else◌}
use Rattle.std.specs.List.{list_all}
use Rattle.workspace_record.specs.Records.{Link, Text}
use Rattle.workspace_record.specs.declared.kinds.LineKind.TheVariants.{Dev}
use Rattle.guppy_package_parts.specs.Lines.{is_kind}

-- `-` as `_`
abbrev pub char_in_rust : ℕ → ℕ
char_in_rust c = if nat_eq c 45 then 95 else c

-- the name with each `-` as `_` (from guppy's `resolved_name`, `dev_only`)
abbrev pub name_in_rust : Text → Text
name_in_rust name = map char_in_rust name

-- no line is normal or build (from guppy's `resolved_name`, `dev_only`)
abbrev pub is_dev_only : Link → Bool
is_dev_only link = list_all (is_kind Dev) link.lines
