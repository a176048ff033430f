use Rattle.std.proofs.Common.{◌≡◌, map}
use Rattle.test_select_checks.specs.CompiledViews.{filters_view}
use Rattle.test_select_checks.specs.RecordFilters.{AreCompiledOf}
use Rattle.test_select_checks.specs.declared.filter_parts.RecordFilters.{RecordFilters}
use Rattle.test_select_tests.proofs.FilteringFacts.{record_faulted}
use Rattle.test_select_tests.proofs.filtering.filters_in.Goals as goal

pub returns-in-Err : goal.returns-in-Err
returns-in-Err c = record_faulted {A = RecordFilters} (λ f. AreCompiledOf c.args.cx.now c.args.record.now (filters_view f)) (λ x. x ≡ c.args.cx.now) c.args.record.now (map (λ t. t.now) c.args.texts.now) c.in-Err.refused c.from.result c.from.ensures c.in-Err.ensures.filters
