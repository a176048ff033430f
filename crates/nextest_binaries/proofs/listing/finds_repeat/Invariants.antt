use Rattle.std.proofs.Common.{take}
use Rattle.list_facts.specs.Texts.{texts}
use Rattle.nextest_binaries.proofs.Repeats.{HoldsDistinct}
use Rattle.nextest_binaries.proofs.listing.finds_repeat.Given as goal

abbrev pub invariant-loop-name : goal.invariant-loop-name
invariant-loop-name l = HoldsDistinct l.seen.keys (texts (take l.name-index l.names))
