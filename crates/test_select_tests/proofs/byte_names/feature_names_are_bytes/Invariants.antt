use Rattle.std.proofs.Common.{All, take}
use Rattle.test_select_tests.specs.ByteNames.{IsByteLabel}
use Rattle.test_select_tests.proofs.byte_names.feature_names_are_bytes.Given as goal

abbrev pub invariant-loop-feature : goal.invariant-loop-feature
invariant-loop-feature l = All (λ f. IsByteLabel f.label) (take l.feature-index l.features)
