-- What a spec says of a platform.
use Rattle.std.specs.Prelude.{Bool, true, false, ◌&&◌, ◌||◌, ◌⊎◌, not, List, IsTrue}
use Rattle.std.specs.List.{list_any}
use Rattle.workspace_record.specs.Records.{Text}
use Rattle.cargo_files.specs.Settings.{Setting, is_name, is_pair}

-- An expression of a spec. `all(a, b)` is both a and (both b and what always holds), and `any(a, b)` is
-- either a or (either b or what never holds).
pub data Cfg : Type 0 where
  constant_of : Bool → Cfg
  name_of : Text → Cfg
  pair_of : Text → Text → Cfg
  not_of : Cfg → Cfg
  both_of : Cfg → Cfg → Cfg
  either_of : Cfg → Cfg → Cfg

-- an expression, and the others of its `all` or `any`
abbrev pub joined_of : Bool → Cfg → Cfg → Cfg
joined_of true x y = both_of x y
joined_of false x y = either_of x y

-- the expression holds under these settings (from Cargo's reference, "Platform specific dependencies")
abbrev pub CfgHolds : List Setting → Cfg → Type 0
CfgHolds settings (constant_of b) = IsTrue b
CfgHolds settings (name_of name) = IsTrue (list_any (is_name name) settings)
CfgHolds settings (pair_of name value) = IsTrue (list_any (is_pair name value) settings)
CfgHolds settings (not_of x) = CfgHolds settings x → ⊥
CfgHolds settings (both_of x y) = CfgHolds settings x × CfgHolds settings y
CfgHolds settings (either_of x y) = CfgHolds settings x ⊎ CfgHolds settings y

-- whether it does
abbrev pub says : List Setting → Cfg → Bool
says settings (constant_of b) = b
says settings (name_of name) = list_any (is_name name) settings
says settings (pair_of name value) = list_any (is_pair name value) settings
says settings (not_of x) = not (says settings x)
says settings (both_of x y) = says settings x && says settings y
says settings (either_of x y) = says settings x || says settings y
