-- Whole specs: which texts are such, and which platforms they name.
use Rattle.std.specs.Prelude.{◌≡◌, ◌<◌, ℕ, Bool, true, false, ◌&&◌, List, take, length, nat_le, bytes_eq, codes, Some}
use Rattle.workspace_record.specs.Records.{Text}
use Rattle.cargo_files.specs.Bytes.{after, run_end}
use Rattle.cargo_files.specs.Settings.{Setting}
use Rattle.cargo_files.specs.Expressions.{Cfg, CfgHolds}
use Rattle.cargo_files.specs.Grammar.{Reads}
use Rattle.cargo_files.specs.declared.bytes.Run.TheVariants.{Triple}

-- an expression, or the triple of one target
pub data Spec : Type 0 where
  cfg_spec : Cfg → Spec
  triple_spec : Text → Spec

-- the text begins as an expression
abbrev pub is_expression : Text → Bool
is_expression text = nat_le 4 (length text) && bytes_eq (take 4 text) (codes "cfg(")

-- behind its first four bytes the text is an expression, of at most 128 inside each other, and a parenthesis
abbrev pub IsCfg : Text → Cfg → Type 0
IsCfg text x = (m : ℕ) × Reads text 128 4 x m × (after text m 41 ≡ Some (length text))

-- letters, digits, `_`, `-` and `.`
abbrev pub IsTriple : Text → Type 0
IsTriple text = (run_end Triple text 0 ≡ length text) × (0 < length text)

-- the text is this spec (from Cargo's reference, "Platform specific dependencies")
abbrev pub IsSpec : Text → Spec → Type 0
IsSpec text (cfg_spec x) = (is_expression text ≡ true) × IsCfg text x
IsSpec text (triple_spec name) = (is_expression text ≡ false) × (text ≡ name) × IsTriple text

-- the spec names the platform that has this triple and these settings (from Cargo's reference, "Platform specific dependencies")
abbrev pub SpecHolds : Text → List Setting → Spec → Type 0
SpecHolds triple settings (cfg_spec x) = CfgHolds settings x
SpecHolds triple settings (triple_spec name) = name ≡ triple
