use Rattle.guppy_feature_demands.specs.DemandViews.{numbered_view}
use Rattle.guppy_feature_nodes.specs.Joining.{JoinedValue}
use Rattle.guppy_feature_nodes.specs.declared.joining.JoinedEdge.{JoinedEdge}

-- what contracts see of an edge
abbrev pub joined_view : JoinedEdge → JoinedValue
joined_view e = record { head = numbered_view e.head; lines = e.lines }
