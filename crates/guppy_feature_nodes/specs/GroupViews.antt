use Rattle.guppy_feature_demands.specs.DemandViews.{numbered_view}
use Rattle.guppy_feature_nodes.specs.Joining.{JoinedValue, Key}
use Rattle.guppy_feature_nodes.specs.KeyViews.{key_view}
use Rattle.guppy_feature_nodes.specs.declared.edge_key.EdgeKey.{EdgeKey}
use Rattle.guppy_feature_nodes.specs.declared.groups.Group.{Group}

-- what contracts see of a group
abbrev pub group_view : Group → JoinedValue
group_view g = record { head = numbered_view g.first; lines = g.lines.items }

-- what contracts see of a group with its key
abbrev pub entry_view : EdgeKey × Group → Key × JoinedValue
entry_view e = (key_view e.0, group_view e.1)
