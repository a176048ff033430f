use Rattle.numbered_graph.proofs.WalkFacts.{included_iff}
use Rattle.numbered_graph.proofs.walk.Walk.includes.Goals as goal

pub returns : goal.returns
returns c = record { included = rw (c.is_set.ensures, c.deref.ensures.value, ← c.self.view_is) (included_iff c.self.invariant.followed c.args.node) }
