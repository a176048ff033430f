use Rattle.std.proofs.Common.{length}
use Rattle.guppy_package_table.proofs.LinkFacts.{IsCandidate, left_from}
use Rattle.guppy_package_table.proofs.table.first_link_between.Given as goal

abbrev pub invariant-loop-next : goal.invariant-loop-next
invariant-loop-next l = IsCandidate l.from l.to l.graph.links l.next

abbrev pub decreases-loop-next : goal.decreases-loop-next
decreases-loop-next l = left_from (length l.graph.links) l.next
