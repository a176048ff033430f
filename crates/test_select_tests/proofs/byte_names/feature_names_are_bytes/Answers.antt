use Rattle.std.proofs.Common.{All, arith, subst, take_all}
use Rattle.test_select_tests.specs.ByteNames.{IsByteLabel}
use Rattle.test_select_tests.proofs.ByteFacts.{label_bytes, seen_more}
use Rattle.test_select_tests.proofs.byte_names.feature_names_are_bytes.Goals as goal

pub loop-feature-preserved : goal.loop-feature-preserved
loop-feature-preserved c = seen_more (λ f. IsByteLabel f.label) c.args.features.now c.loop-feature.feature-index c.feature-item.result (omega arith) c.feature-item.is c.loop-feature.invariant (subst (λ f. IsByteLabel f.label) c.feature.view_is (label_bytes c.feature.inside.label))

pub returns : goal.returns
returns c = record { texts = subst (All (λ f. IsByteLabel f.label)) (take_all c.loop-feature.feature-index c.args.features.now (omega arith)) c.loop-feature.invariant }
