use Rattle.std.proofs.Common.{All, arith, subst, take_all}
use Rattle.nextest_filtering.specs.SameFilters.{AreBytes}
use Rattle.test_select_tests.proofs.ByteFacts.{seen_more, text_bytes}
use Rattle.test_select_tests.proofs.byte_names.see_features.Goals as goal

pub loop-feature-preserved : goal.loop-feature-preserved
loop-feature-preserved c = seen_more (λ f. AreBytes f.name) c.args.features.now c.loop-feature.feature-index c.feature-item.result (omega arith) c.feature-item.is c.loop-feature.invariant (subst (λ f. AreBytes f.name) c.feature.view_is (text_bytes c.feature.inside.name))

pub returns : goal.returns
returns c = subst (All (λ f. AreBytes f.name)) (take_all c.loop-feature.feature-index c.args.features.now (omega arith)) c.loop-feature.invariant
