use Rattle.std.proofs.Common.{take}
use Rattle.nextest_filtering.specs.CopiedFaults.{AreSame}
use Rattle.nextest_filtering.proofs.refusals.copied.Given as goal

abbrev pub invariant-loop-fault : goal.invariant-loop-fault
invariant-loop-fault l = AreSame (take l.fault-index l.faults) l.copies.items
