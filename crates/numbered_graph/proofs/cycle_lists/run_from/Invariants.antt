use Rattle.std.proofs.Common.{◌≡◌, ◌+◌, ◌-◌, ◌≤◌, ◌++◌, length, get_or, take, All}
use Rattle.numbered_graph.proofs.cycle_lists.run_from.Given as goal

abbrev pub invariant-loop-at : goal.invariant-loop-at
invariant-loop-at l = record {
  at : l.at ≡ l.start + length l.run.items;
  within : l.at ≤ length l.nodes;
  whole : take l.start l.nodes ++ l.run.items ≡ take l.at l.nodes;
  level : All (λ v. get_or l.keys v 0 ≡ l.key) l.run.items;
}

abbrev pub decreases-loop-at : goal.decreases-loop-at
decreases-loop-at l = length l.nodes - l.at
