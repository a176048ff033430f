use Rattle.std.proofs.Common.{nat_lt, subst}
use Rattle.numbered_graph.specs.Graphs.{GraphValue}
use Rattle.numbered_graph.specs.Listings.{IsListing}
use Rattle.numbered_graph.specs.Sets.{has}
use Rattle.test_select_features.proofs.dependency_orders.places_in_order.Goals as goal

pub returns : goal.returns
returns c =
    let listed = c.in_ok-places.places.items in
    let listing = subst (λ (g : GraphValue). IsListing g.links (has c.args.firm.now) (λ p. nat_lt p g.nodes) listed) c.in_ok-graph.ensures.made c.in_ok-places.ensures.listing in
    (listed, listing, c.reverse.ensures.items)
