use Rattle.std.proofs.Common.{◌≡◌, ◌+◌, ◌-◌, ◌≤◌, length, All, None}
use Rattle.numbered_graph.specs.Sets.{has}
use Rattle.numbered_graph.proofs.reaching.reach_over_counted.Given as goal

abbrev pub invariant-loop-number : goal.invariant-loop-number
invariant-loop-number g l = record {
  graph : l.walk.graph ≡ l.graph;
  direction : l.walk.direction ≡ l.fn.direction;
  starts : l.walk.starts ≡ l.fn.starts;
  idle : l.walk.waiting ≡ None;
  answers : All (λ s. s.1 ≡ has l.passes s.0) l.walk.shown;
  looks : l.looks ≡ l.fn.looks + l.walk.looked;
  bound : l.walk.looked ≤ l.graph.nodes + length l.graph.links;
}

abbrev pub decreases-loop-number : goal.decreases-loop-number
decreases-loop-number g l = length l.walk.graph.links - length l.walk.shown
