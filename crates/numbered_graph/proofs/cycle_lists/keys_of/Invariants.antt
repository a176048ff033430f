use Rattle.std.proofs.Common.{◌≡◌, take, map}
use Rattle.numbered_graph.specs.Cycles.{key_of}
use Rattle.numbered_graph.proofs.cycle_lists.keys_of.Given as goal

abbrev pub invariant-loop-rank : goal.invariant-loop-rank
invariant-loop-rank l = l.keys.items ≡ map (key_of l.direction l.top) (take l.rank-index l.ranks)
