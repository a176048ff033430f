use Rattle.std.proofs.Common.{◌<◌, length, All}
use Rattle.numbered_graph.specs.Roots.{AreEntered}
use Rattle.numbered_graph.proofs.roots.entered_ranks.Given as goal

abbrev pub invariant-loop-number : goal.invariant-loop-number
invariant-loop-number l = record {
  entered : AreEntered l.direction l.graph.links l.ranks l.set l.number l.entered.items;
  sized : All (λ r. r < length l.entered.items) l.ranks;
}
