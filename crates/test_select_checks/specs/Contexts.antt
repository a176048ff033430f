-- The packages over which the filters of a record are matched.
use Rattle.std.specs.Prelude.{ℕ}
use Rattle.numbered_graph.specs.Paths.{Reaches, any_link}
use Rattle.workspace_record.specs.Records.{Workspace}
use Rattle.guppy_package_table.specs.Tables.{TableValue, IsTableOf, numbered_links}
use Rattle.guppy_package_graph.specs.Workspaces.{IsMemberPlace}
use Rattle.nextest_filtering.specs.Contexts.{ContextValue, IsContextOf}

-- the graph of the packages and links of a record (nextest matches names over the packages of a workspace)
abbrev pub IsDeclaredGraph : Workspace → TableValue → Type 0
IsDeclaredGraph w g = IsTableOf w.packages w.links w.workspace g

-- a path, maybe empty, leads from a member to the package at the place (nextest matches names over the packages of a workspace)
pub record IsNeeded (g : TableValue) (v : ℕ) : Type 0 where
  pub member : ℕ
  pub is_member : IsMemberPlace g member
  pub path : Reaches (numbered_links g) any_link member v

-- names are matched over the packages to which declared links lead from the members, whichever links paths follow
-- (nextest matches names over the packages of a workspace)
pub record HasNamesOf (w : Workspace) (cx : ContextValue) : Type 0 where
  pub declared : TableValue
  pub is_declared : IsDeclaredGraph w declared
  pub needed : IsContextOf cx.graph declared (IsNeeded declared) cx
