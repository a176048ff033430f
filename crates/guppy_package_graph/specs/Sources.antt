-- Where packages come from.
use Rattle.std.specs.Prelude.{◌≡◌, ℕ, Some, slice_get}
use Rattle.workspace_record.specs.Records.{Package}
use Rattle.guppy_package_parts.specs.Sources.{Source, source_of}
use Rattle.guppy_package_table.specs.Tables.{TableValue, member_path_at}

-- the package at the place comes from there: a member from the workspace, another from what its row says
-- (from guppy's `PackageSource`)
pub record IsSourceAt (g : TableValue) (v : ℕ) (source : Source) : Type 0 where
  pub row : Package
  pub is_row : slice_get g.packages v ≡ Some row
  pub is_source : source ≡ source_of (member_path_at g v) row.info.source row.info.path
