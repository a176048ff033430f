use Rattle.test_select_tests.proofs.SelectingFacts.{let_through_twice}
use Rattle.test_select_tests.proofs.WantedFacts.{wanted_twice}
use Rattle.test_select_tests.proofs.laws.unasked_binaries_have_no_chosen_test.Goals as goal

pub returns : goal.returns
returns c = record {
  none = λ q r ids listing_of pair asked out h.
      wanted_twice q.asks (let_through_twice q r h.binary pair.1 h.holds h.default_holds) (λ wanted. out ((asked.members pair.0).1 (h.binary, h.id, h.available, wanted)));
}
