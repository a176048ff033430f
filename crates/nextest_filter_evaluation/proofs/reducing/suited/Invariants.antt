use Rattle.std.proofs.Common.{map, take}
use Rattle.nextest_filter_evaluation.specs.NameTests.{name_test}
use Rattle.nextest_filter_evaluation.specs.Ready.{AreSuited}
use Rattle.nextest_filter_evaluation.proofs.reducing.suited.Given as goal

abbrev pub invariant-loop-name : goal.invariant-loop-name
invariant-loop-name l =
    AreSuited (name_test l.matcher) (map (λ t. t.now) (take l.name-index l.names)) l.flags.items
