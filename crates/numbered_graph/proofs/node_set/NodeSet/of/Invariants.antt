use Rattle.std.proofs.Common.{◌≡◌, ℕ, ◌↔◌, true, length, take, Contains}
use Rattle.numbered_graph.specs.Sets.{has}
use Rattle.numbered_graph.proofs.node_set.NodeSet.of.Given as goal

abbrev pub invariant-loop-member : goal.invariant-loop-member
invariant-loop-member l = record {
  sized : length l.flags.items ≡ l.fn.nodes;
  members : (v : ℕ) → (has l.flags.items v ≡ true) ↔ Contains (take l.member-index l.members) v;
}
