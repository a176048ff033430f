use Rattle.std.proofs.Common.{◌∙◌, ap}
use Rattle.list_facts.proofs.Lists.{both_more}
use Rattle.nextest_filter_evaluation.specs.Compiled.{compiled_of}
use Rattle.test_select_checks.specs.CompiledViews.{group_view}
use Rattle.test_select_tests.proofs.lending.group_filters.Goals as goal

pub loop-group-preserved : goal.loop-group-preserved
loop-group-preserved c =
    both_more (λ f. compiled_of f.now) (λ g. (group_view g).1) c.loop-group.filters.items c.push.new.self.items c.filter.result c.args.groups.now c.loop-group.group-index _ c.loop-group-test.true c.in_ok-push.ensures.items (c.filter.ensures.filter ∙ ap (λ g. (group_view g).1) c.group-item.is) c.loop-group.invariant
