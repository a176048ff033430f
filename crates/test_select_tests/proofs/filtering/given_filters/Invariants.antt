use Rattle.std.proofs.Common.{map, take}
use Rattle.nextest_filter_evaluation.specs.Compiled.{compiled_of}
use Rattle.nextest_filter_tokens.specs.declared.filterset_kind.FiltersetKind.TheVariants.{Test}
use Rattle.test_select_checks.specs.Alike.{AreAlike}
use Rattle.test_select_checks.specs.FilterTexts.{IsCompiledText}
use Rattle.test_select_tests.proofs.filtering.given_filters.Given as goal

abbrev pub invariant-loop-place : goal.invariant-loop-place
invariant-loop-place l = AreAlike (IsCompiledText l.cx l.groups Test) (map (λ t. t.now) (take l.place l.texts)) (map compiled_of l.filters.items)
