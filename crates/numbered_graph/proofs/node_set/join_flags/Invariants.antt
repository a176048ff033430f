use Rattle.std.proofs.Common.{◌≡◌, ℕ, ◌<◌, length}
use Rattle.numbered_graph.specs.Sets.{has, joined}
use Rattle.numbered_graph.proofs.node_set.join_flags.Given as goal

abbrev pub invariant-loop-k : goal.invariant-loop-k
invariant-loop-k l = record {
  sized : length l.flags.items ≡ l.k;
  each : (i : ℕ) → i < l.k → has l.flags.items i ≡ joined l.fn.operation (has l.a i) (has l.b i);
}
