use Rattle.nextest_filter_evaluation.specs.NameTests.{Suits, name_test}
use Rattle.test_select_checks.specs.CompiledViews.{filters_view}
use Rattle.test_select_checks.proofs.GroupFacts.{suits_exactly}
use Rattle.test_select_checks.proofs.group_table.GroupTableGroupLookup.is_member_test.Goals as goal

pub returns-clause-member : goal.returns-clause-member
returns-clause-member c =
    suits_exactly _ (filters_view c.args.self.now.filters.now).groups c.in_ok-name.name.now (Suits (name_test c.args.matcher.now)) c.suits.result c.in_ok-name.ensures.first c.suits.ensures.matches
