use Rattle.nextest_filter_syntax.proofs.LeafStepFacts.{goes_both}
use Rattle.nextest_filter_syntax.proofs.places.closed_after.Goals as goal

pub returns-clause-goes_on : goal.returns-clause-goes_on
returns-clause-goes_on c =
    goes_both c.args.text.now c.args.at c.in_ok-place.place c.in_ok-end.end c.args.faults.now c.after_comma.new.faults c.expect_byte.new.faults c.in_ok-place.ensures.goes_on c.in_ok-end.ensures.goes_on

pub expect_byte-requires-clause-faults : goal.expect_byte-requires-clause-faults
expect_byte-requires-clause-faults c =
    c.in_ok-place.ensures.goes_on.2.2
