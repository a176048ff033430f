use Rattle.std.proofs.Common.{◌≡◌, map, take}
use Rattle.guppy_feature_demands.specs.Demands.{same_name}
use Rattle.guppy_feature_demands.specs.NamedRows.{named_view}
use Rattle.guppy_feature_demands.specs.Nodes.{first_of_each}
use Rattle.guppy_feature_demands.proofs.named_entries.named_entries.Given as goal

abbrev pub invariant-loop-row : goal.invariant-loop-row
invariant-loop-row l = map named_view l.set.keys ≡ first_of_each same_name (take l.row-index l.features)
