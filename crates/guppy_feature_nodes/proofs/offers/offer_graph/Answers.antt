use Rattle.std.proofs.Common.{map, subst, sym}
use Rattle.numbered_offers.specs.Edges.{AreEdgesWithin}
use Rattle.guppy_feature_nodes.specs.EdgeViews.{edge_view}
use Rattle.guppy_feature_nodes.proofs.OfferFacts.{offers_within}
use Rattle.guppy_feature_nodes.proofs.offers.offer_graph.Goals as goal

pub new-requires : goal.new-requires
new-requires c = subst (AreEdgesWithin c.args.nodes) (sym c.in_ok-offers.ensures) (offers_within c.args.direction c.args.nodes c.args.links.now (map edge_view c.args.edges.now) c.requires)
