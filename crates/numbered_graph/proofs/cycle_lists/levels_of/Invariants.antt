use Rattle.std.proofs.Common.{◌<◌, length, All}
use Rattle.numbered_graph.specs.Cycles.{AreLevels}
use Rattle.numbered_graph.proofs.cycle_lists.levels_of.Given as goal

abbrev pub invariant-loop-number : goal.invariant-loop-number
invariant-loop-number l = record {
  levels : AreLevels l.graph.links l.keys l.number l.levels.items;
  sized : All (λ k. k < length l.levels.items) l.keys;
}
