use Rattle.test_select_checks.proofs.ContextFacts.{names_of_record}
use Rattle.library_tests.proofs.selections.direct.filters_of.Goals as goal

pub record_filters-requires : goal.record_filters-requires
record_filters-requires c = record {
  names = names_of_record c.args.record.now c.in_ok-graph.graph c.in_ok-graph.graph c.in_ok-cx.cx c.in_ok-graph.ensures.graph c.in_ok-cx.ensures.context;
}
