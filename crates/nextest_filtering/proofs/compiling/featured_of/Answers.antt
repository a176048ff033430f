use Rattle.nextest_filter_evaluation.specs.NameTests.{name_test}
use Rattle.nextest_filtering.specs.Meaning.{IsFeatured}
use Rattle.nextest_filtering.proofs.AcceptFacts.{expected, packages_as}
use Rattle.nextest_filtering.proofs.compiling.featured_of.Goals as goal

pub returns-clause-packages : goal.returns-clause-packages
returns-clause-packages c =
    packages_as (λ i. i.now) (IsFeatured c.args.cx.now (name_test c.args.matcher.now)) c.in_ok-ids.ids.keys _ _ c.deref.ensures.value c.in_ok-ids.ensures c.in_ok-featured.ensures

pub returns-clause-faults : goal.returns-clause-faults
returns-clause-faults c = expected _ _ _ _ _ c.in_ok-is_some.ensures c.in_ok-expect.ensures
