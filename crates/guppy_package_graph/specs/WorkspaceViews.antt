use Rattle.guppy_package_table.specs.Tables.{TableValue}
use Rattle.guppy_package_graph.specs.declared.workspace.Workspace.{Workspace}

-- the graph of a workspace
abbrev pub workspace_of : Workspace → TableValue
workspace_of w = w.graph.now
