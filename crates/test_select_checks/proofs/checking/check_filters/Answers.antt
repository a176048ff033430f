use Rattle.test_select_checks.specs.CompiledViews.{filters_view}
use Rattle.test_select_checks.proofs.ContextFacts.{names_of_record}
use Rattle.test_select_checks.proofs.FilterFacts.{filters_accepted}
use Rattle.test_select_checks.proofs.checking.check_filters.Goals as goal

pub returns-in-Ok : goal.returns-in-Ok
returns-in-Ok c =
    filters_accepted c.in_ok-cx.cx c.args.record.now (filters_view c.in-Ok.field-0) (names_of_record c.args.record.now c.args.graph.now c.args.graph.now c.in_ok-cx.cx c.requires.declared c.in_ok-cx.ensures.context) c.in-Ok.ensures.filters
