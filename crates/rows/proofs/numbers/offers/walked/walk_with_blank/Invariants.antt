use Rattle.std.proofs.Common.{◌≡◌, ◌+◌, ◌-◌, length, None, count_by}
use Rattle.numbered_offers.specs.Edges.{is_weak}
use Rattle.rows.proofs.numbers.offers.walked.walk_with_blank.Given as goal

abbrev pub invariant-loop-due : goal.invariant-loop-due
invariant-loop-due g l = record {
  graph : l.walk.graph ≡ l.graph;
  idle : l.walk.waiting ≡ None;
}

abbrev pub decreases-loop-due : goal.decreases-loop-due
decreases-loop-due g l = (length l.graph.edges + count_by is_weak l.graph.edges) - l.walk.passed
