use Rattle.std.proofs.Common.{map, take}
use Rattle.nextest_filtering.specs.ContextViews.{ArePicked, IsInSet}
use Rattle.nextest_filtering.proofs.matching.in_set.Given as goal

abbrev pub invariant-loop-found : goal.invariant-loop-found
invariant-loop-found l = ArePicked (λ p. IsInSet l.set p.0) (take l.found-index l.packages) (map (λ i. i.now) l.ids.items)
