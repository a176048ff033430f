use Rattle.std.proofs.Common.{◌≡◌, ◌∷◌, [], ◌-◌, true, length, All, None}
use Rattle.numbered_graph.specs.declared.direction.Direction.TheVariants.{Forward}
use Rattle.numbered_graph.proofs.reaching.leads_to.Given as goal

abbrev pub invariant-loop-walk : goal.invariant-loop-walk
invariant-loop-walk l = record {
  graph : l.walk.graph ≡ l.graph;
  direction : l.walk.direction ≡ Forward;
  starts : l.walk.starts ≡ l.from ∷ [];
  idle : l.walk.waiting ≡ None;
  answers : All (λ s. s.1 ≡ true) l.walk.shown;
}

abbrev pub decreases-loop-walk : goal.decreases-loop-walk
decreases-loop-walk l = length l.walk.graph.links - length l.walk.shown
