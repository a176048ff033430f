use Rattle.std.proofs.Common.{All, arith, subst, take_all}
use Rattle.nextest_filtering.specs.SameFilters.{AreBytes}
use Rattle.test_select_tests.proofs.ByteFacts.{seen_more, text_bytes}
use Rattle.test_select_tests.proofs.byte_names.see_groups.Goals as goal

pub loop-group-preserved : goal.loop-group-preserved
loop-group-preserved c = seen_more (λ g. AreBytes g.name) c.args.groups.now c.loop-group.group-index c.group-item.result (omega arith) c.group-item.is c.loop-group.invariant (subst (λ g. AreBytes g.name) c.group.view_is (text_bytes c.group.inside.name))

pub returns : goal.returns
returns c = subst (All (λ g. AreBytes g.name)) (take_all c.loop-group.group-index c.args.groups.now (omega arith)) c.loop-group.invariant
