-- The weights to which demands give way.
use Rattle.std.specs.Prelude.{◌≡◌, Bool, true, nat_lt, List}
use Rattle.std.specs.List.{list_any}
use Rattle.guppy_feature_demands.specs.Demands.{NumberedValue}
use Rattle.guppy_feature_nodes.specs.Joining.{Key, is_outweighed, key_eq}

-- others may give way to it: what leads always, and strong entries
abbrev pub is_weighty : Key → Bool
is_weighty key = nat_lt key.1.0 2

-- those to which others may give way are those of the demands
pub record FindsWeights (ds : List NumberedValue) (weights : List Key) : Type 0 where
  pub each : (key : Key) → is_weighty key ≡ true → list_any (key_eq key) weights ≡ is_outweighed ds key
