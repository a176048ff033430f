use Rattle.std.proofs.Common.{All, arith, subst, take_all}
use Rattle.nextest_filtering.specs.SameFilters.{AreBytes}
use Rattle.test_select_tests.proofs.ByteFacts.{seen_more, text_bytes}
use Rattle.test_select_tests.proofs.byte_names.see_targets.Goals as goal

pub loop-target-preserved : goal.loop-target-preserved
loop-target-preserved c = seen_more (λ t. AreBytes t.name) c.args.targets.now c.loop-target.target-index c.target-item.result (omega arith) c.target-item.is c.loop-target.invariant (subst (λ t. AreBytes t.name) c.target.view_is (text_bytes c.target.inside.name))

pub returns : goal.returns
returns c = subst (All (λ t. AreBytes t.name)) (take_all c.loop-target.target-index c.args.targets.now (omega arith)) c.loop-target.invariant
