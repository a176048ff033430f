use Rattle.std.proofs.Common.{◌≡◌, map, take}
use Rattle.guppy_feature_views.specs.Told.{told_at, told_view}
use Rattle.guppy_feature_views.proofs.told.edges_told.Given as goal

abbrev pub invariant-loop-number : goal.invariant-loop-number
invariant-loop-number l = map told_view l.edges.items ≡ map (told_at l.built) (take l.number-index l.numbers)
