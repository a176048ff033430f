use Rattle.numbered_graph.specs.Searches.{RanksFrom}
use Rattle.numbered_graph.proofs.components.close.Given as goal

abbrev pub invariant-loop-place : goal.invariant-loop-place
invariant-loop-place l = RanksFrom l.start l.place l.rank l.path.items l.fn.ranks.items l.ranks.items
