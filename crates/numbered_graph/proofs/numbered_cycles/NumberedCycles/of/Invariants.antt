use Rattle.std.proofs.Common.{◌≡◌, ◌<◌, ◌≤◌, ℕ, length, map, slice_index_or, take, if◌then◌else◌}
use Rattle.numbered_graph.specs.CycleNumbers.{AreNumbers}
use Rattle.numbered_graph.specs.Cycles.{has_node}
use Rattle.numbered_graph.proofs.numbered_cycles.NumberedCycles.of.Given as goal

abbrev pub invariant-loop-number : goal.invariant-loop-number
invariant-loop-number l = record {
  within : l.number ≤ length l.cycles.items;
  numbers : AreNumbers l.nodes (map (λ c. c.items) l.cycles.items) l.number l.numbers.items;
}

abbrev pub decreases-loop-number : goal.decreases-loop-number
decreases-loop-number l = l.number

abbrev pub invariant-loop-node : goal.invariant-loop-node
invariant-loop-node l = record {
  sized : length l.numbers.items ≡ length l.initial.numbers.items;
  each : (v : ℕ) → v < length l.initial.numbers.items → slice_index_or l.numbers.items v 0 ≡ (if has_node v (take l.node-index l.node-items) then l.number else slice_index_or l.initial.numbers.items v 0);
}
