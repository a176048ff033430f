use Rattle.std.proofs.Common.{◌≡◌, map, take}
use Rattle.nextest_filter_evaluation.specs.Compiled.{compiled_of}
use Rattle.test_select_tests.proofs.lending.lent_texts.Given as goal

abbrev pub invariant-loop-text : goal.invariant-loop-text
invariant-loop-text l = map (λ f. compiled_of f.now) l.filters.items ≡ map compiled_of (take l.text-index l.texts)
