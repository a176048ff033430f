use Rattle.nextest_filter_matchers.specs.Matchers.{tokens_of}
use Rattle.test_select_changes.proofs.LookingFacts.{none_takes}
use Rattle.test_select_changes.proofs.looking.is_taken.Goals as goal

pub returns : goal.returns
returns c =
    (λ e. absurd cc, λ taken. absurd (none_takes tokens_of c.args.ignored.now c.loop-glob.glob-index c.args.path.now c.loop-glob-test.false c.loop-glob.invariant taken))
