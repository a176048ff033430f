use Rattle.numbered_offers.proofs.LinkFacts.{half_small}
use Rattle.numbered_offers.proofs.state.half_of.Goals as goal

pub returns-clause-edge : goal.returns-clause-edge
returns-clause-edge c = rw (c.halves.ensures, c.edges-edges.ensures.value) (half_small c.args.graph.now.edges c.args.number c.requires.behind c.requires.number)
