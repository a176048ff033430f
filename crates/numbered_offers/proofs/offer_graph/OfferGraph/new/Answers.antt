use Rattle.numbered_offers.proofs.LinkFacts.{halves_small, links_within}
use Rattle.numbered_offers.proofs.offer_graph.OfferGraph.new.Goals as goal

pub links_of-requires : goal.links_of-requires
links_of-requires c = rw (c.deref-3.ensures.value, c.deref-2.ensures.value, c.in_ok-halves.ensures, c.deref.ensures.value) (halves_small c.args.edges.items)

pub new-requires : goal.new-requires
new-requires c = rw (c.in_ok-links.ensures, c.deref-3.ensures.value, c.deref-2.ensures.value, c.in_ok-halves.ensures, c.deref.ensures.value) (links_within c.args.nodes c.args.edges.items c.requires)
