use Rattle.numbered_graph.proofs.WalkFacts.{included_iff}
use Rattle.numbered_graph.proofs.walk.Walk.into_included.Goals as goal

pub returns-clause-included : goal.returns-clause-included
returns-clause-included c = rw (c.from_flags.ensures, ← c.self.view_is) (included_iff c.self.invariant.followed)
