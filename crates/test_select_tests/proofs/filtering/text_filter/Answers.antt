use Rattle.test_select_tests.proofs.FilteringFacts.{text_error}
use Rattle.test_select_tests.proofs.filtering.text_filter.Goals as goal

pub returns-in-Err : goal.returns-in-Err
returns-in-Err c = text_error c.args.cx.now c.args.groups.now c.args.place c.args.text.now c.in-Err.refused c.refused_at.result c.refused_at.ensures c.in-Err.ensures.refused
