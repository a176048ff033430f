use Rattle.std.proofs.Common.{length}
use Rattle.numbered_graph.specs.Searches.{IsCut}
use Rattle.numbered_graph.proofs.components.join.Given as goal

abbrev pub invariant-loop-starts : goal.invariant-loop-starts
invariant-loop-starts l = IsCut l.place l.fn.starts.items l.starts.items

abbrev pub decreases-loop-starts : goal.decreases-loop-starts
decreases-loop-starts l = length l.starts.items
