use Rattle.nextest_filter_evaluation.specs.NameTests.{name_test}
use Rattle.nextest_filtering.proofs.FeatureFacts.{featured_of}
use Rattle.nextest_filtering.proofs.parse_context.ParseContext.featured.Goals as goal

pub returns : goal.returns
returns c =
    featured_of (λ i. i.now) c.args.self.now (name_test c.args.matcher.now) _ _ c.in_ok-wanted.wanted.keys _ _ _ c.on.ensures c.packages.ensures c.deref.ensures.value c.in_ok-listed.ensures c.in_ok-wanted.ensures c.in_ok-ids.ensures
