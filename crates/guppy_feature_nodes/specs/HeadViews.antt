use Rattle.std.specs.Cmp.{IsEquivalence}
use Rattle.guppy_feature_demands.specs.Equivalences.{on_equivalence}
use Rattle.guppy_feature_nodes.specs.Joining.{join_key, same_edge}
use Rattle.guppy_feature_nodes.specs.KeyViews.{keys_equivalence}

pub same_edge_equivalence : IsEquivalence same_edge
same_edge_equivalence = on_equivalence join_key keys_equivalence
