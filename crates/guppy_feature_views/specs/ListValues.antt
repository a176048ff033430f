-- The features of one package.
use Rattle.std.specs.Prelude.{ℕ, List}
use Rattle.workspace_record.specs.Features.{LabelValue}
use Rattle.guppy_package_table.specs.Tables.{TableValue}

-- what is seen of a list: the graph and the place of its package, and the labels (from guppy's `FeatureList`)
pub record ListValue : Type 0 where
  pub graph : TableValue
  pub place : ℕ
  pub labels : List LabelValue
