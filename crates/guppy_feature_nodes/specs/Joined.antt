use Rattle.std.specs.Prelude.{◌≡◌, List, map}
use Rattle.guppy_feature_demands.specs.Demands.{NumberedValue}
use Rattle.guppy_feature_demands.specs.Nodes.{first_of_each}
use Rattle.guppy_feature_nodes.specs.GroupViews.{entry_view}
use Rattle.guppy_feature_nodes.specs.Groups.{group_at}
use Rattle.guppy_feature_nodes.specs.Joining.{same_edge}
use Rattle.guppy_feature_nodes.specs.declared.groups.Groups.{Groups}

-- the groups are those of the demands, in the order of their first ones
pub record JoinsDemands (ds : List NumberedValue) (groups : Groups) : Type 0 where
  pub entries : map entry_view groups.map.entries ≡ map (group_at ds) (first_of_each same_edge ds)
