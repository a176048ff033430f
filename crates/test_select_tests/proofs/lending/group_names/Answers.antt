use Rattle.std.proofs.Common.{◌∙◌, ap}
use Rattle.list_facts.proofs.Lists.{both_more}
use Rattle.test_select_checks.specs.CompiledViews.{group_view}
use Rattle.test_select_tests.proofs.lending.group_names.Goals as goal

pub loop-group-preserved : goal.loop-group-preserved
loop-group-preserved c =
    both_more (λ t. t.now) (λ g. (group_view g).0) c.loop-group.names.items c.push.new.self.items c.name.result c.args.groups.now c.loop-group.group-index _ c.loop-group-test.true c.in_ok-push.ensures.items (c.name.ensures.name ∙ ap (λ g. (group_view g).0) c.group-item.is) c.loop-group.invariant
