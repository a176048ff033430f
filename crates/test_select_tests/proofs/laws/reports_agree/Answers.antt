use Rattle.test_select_tests.proofs.ReadingFacts.{read_before, say_the_same}
use Rattle.test_select_tests.proofs.SelectingFacts.{chosen_before, chosen_too, one_report}
use Rattle.test_select_tests.proofs.laws.reports_agree.Goals as goal

pub returns : goal.returns
returns c = record {
  agree = λ q r s asks listing_of pairs others p o report other.
      let same = say_the_same q r s p (read_before q asks s o) in
      one_report
      (λ pair. (
        λ h. (other.members pair).1 (chosen_too q s asks listing_of pair ((same.chosen listing_of pair (report.byte_names pair h)).0 ((report.members pair).0 h))),
        λ h. (report.members pair).1 ((same.chosen listing_of pair (other.byte_names pair h)).1 (chosen_before q s asks listing_of pair ((other.members pair).0 h))),
      ))
      report.ascending other.ascending;
}
