use Rattle.std.proofs.Common.{◌≡◌, ◌-◌, length, None}
use Rattle.rows.proofs.numbers.graphs.walked.walk_with_blank.Given as goal

abbrev pub invariant-loop-number : goal.invariant-loop-number
invariant-loop-number g l = record {
  graph : l.walk.graph ≡ l.graph;
  idle : l.walk.waiting ≡ None;
}

abbrev pub decreases-loop-number : goal.decreases-loop-number
decreases-loop-number g l = length l.walk.graph.links - length l.walk.shown
