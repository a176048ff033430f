use Rattle.test_select_tests.proofs.ReasonLaws.{binary_says, tests_say}
use Rattle.test_select_tests.proofs.laws.reasons_say_what_is_selected.Goals as goal

pub returns : goal.returns
returns c = record {
  say = λ q r b answered available. record {
    tests = tests_say q r b answered available;
    itself = binary_says q r b answered available;
  };
}
