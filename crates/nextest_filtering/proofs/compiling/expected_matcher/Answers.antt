use Rattle.nextest_filtering.proofs.CopiedFacts.{copied_test}
use Rattle.nextest_filtering.proofs.compiling.expected_matcher.Goals as goal

pub returns-clause-same : goal.returns-clause-same
returns-clause-same c =
    copied_test c.copy.result c.args.matcher.now c.copy.ensures.equal c.copy.ensures.pattern
