use Rattle.std.proofs.Common.{◌↔◌}
use Rattle.list_facts.specs.Texts.{texts}
use Rattle.nextest_filter_evaluation.specs.NameTests.{SuitsOneOf, name_test}
use Rattle.nextest_filter_evaluation.proofs.groups.some_suits.Given as goal

abbrev pub invariant-loop-name : goal.invariant-loop-name
invariant-loop-name l =
    (goal.iterator-loop-name).can_next l.name-iterator ×
    (goal.iterator-loop-name).is_finite l.name-iterator ×
    (SuitsOneOf (name_test l.matcher) (texts l.names.keys) ↔ SuitsOneOf (name_test l.matcher) (texts l.name-iterator))
