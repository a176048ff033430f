use Rattle.nextest_filter_evaluation.proofs.NameFacts.{rest_answers}
use Rattle.nextest_filter_evaluation.proofs.groups.KnownGroups.matches.Goals as goal

pub returns-else-branch : goal.returns-else-branch
returns-else-branch c =
    record { some = rw c.in-Known.is (rest_answers _ _ _ c.in_ok-suits-in-Known.field-0 _ c.in_ok-suits-in-Known.ensures.matches c.if-branch.false c.some_suits.ensures) }
