use Rattle.std.proofs.Common.{◌≤◌, length}
use Rattle.numbered_graph.specs.Chains.{AreChained}
use Rattle.numbered_graph.proofs.chains.chains_of.Given as goal

abbrev pub invariant-loop-at : goal.invariant-loop-at
invariant-loop-at l = record { so_far : AreChained l.direction l.nodes l.links l.at l.first.items l.next.items; within : l.at ≤ length l.links }

abbrev pub decreases-loop-at : goal.decreases-loop-at
decreases-loop-at l = l.at
