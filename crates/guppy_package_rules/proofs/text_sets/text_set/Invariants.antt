use Rattle.std.proofs.Common.{take}
use Rattle.guppy_package_rules.proofs.PlaceFacts.{HoldsSeen}
use Rattle.guppy_package_rules.proofs.FoundFacts.{lent_texts}
use Rattle.guppy_package_rules.proofs.text_sets.text_set.Given as goal

abbrev pub invariant-loop-text : goal.invariant-loop-text
invariant-loop-text l = HoldsSeen lent_texts l.set.keys (take l.text-index l.texts)
