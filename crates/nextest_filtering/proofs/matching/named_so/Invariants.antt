use Rattle.std.proofs.Common.{map, take}
use Rattle.nextest_filter_evaluation.specs.NameTests.{Suits, name_test}
use Rattle.nextest_filtering.specs.ContextViews.{ArePicked}
use Rattle.nextest_filtering.proofs.matching.named_so.Given as goal

abbrev pub invariant-loop-found : goal.invariant-loop-found
invariant-loop-found l = ArePicked (λ p. Suits (name_test l.matcher) p.1) (take l.found-index l.packages) (map (λ i. i.now) l.ids.items)
