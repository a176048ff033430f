use Rattle.std.proofs.Common.{Contains, map, take}
use Rattle.nextest_filtering.specs.ContextViews.{ArePicked}
use Rattle.nextest_filtering.proofs.matching.those_in.Given as goal

abbrev pub invariant-loop-found : goal.invariant-loop-found
invariant-loop-found l = ArePicked (λ p. Contains l.wanted.keys p.0) (take l.found-index l.packages) (map (λ i. i.now) l.ids.items)
