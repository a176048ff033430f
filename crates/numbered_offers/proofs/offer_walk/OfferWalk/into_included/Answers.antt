use Rattle.std.proofs.Common.{◌↔◌, IsTrue, ap, subst, ◌∙◌}
use Rattle.numbered_graph.specs.Sets.{has}
use Rattle.numbered_graph.specs.Walks.{IsIncluded}
use Rattle.numbered_offers.specs.Graphs.{all_links}
use Rattle.numbered_offers.specs.Keeping.{run_of}
use Rattle.numbered_offers.specs.OfferWalks.{OfferWalkValue}
use Rattle.numbered_offers.specs.Runs.{IsReachedBy}
use Rattle.numbered_offers.specs.States.{edges_of}
use Rattle.numbered_offers.proofs.EndFacts.{included_is}
use Rattle.numbered_offers.proofs.ViewFacts.{carry}
use Rattle.numbered_offers.proofs.offer_walk.OfferWalk.into_included.Goals as goal

pub returns-clause-included : goal.returns-clause-included
returns-clause-included c = λ ended v.
    let s = c.self.inside.state in
    let is = c.self.view_is in
    let value = c.args.self in
    let stands = c.self.invariant.stands in
    let set = c.into_included.result in
    let of_walk = c.into_included.ensures.included v in
    let here : IsTrue (has set v) ↔ IsIncluded s.direction (all_links (edges_of s)) s.walk.starts s.walk.shown v =
    subst (λ d. IsTrue (has set v) ↔ IsIncluded d (all_links (edges_of s)) s.walk.starts s.walk.shown v) stands.direction (subst (λ g. IsTrue (has set v) ↔ IsIncluded s.walk.direction g.links s.walk.starts s.walk.shown v) stands.graph of_walk) in
    let ends = included_is s.direction (edges_of s) s.walk.starts s.walk.shown (run_of s.asked.items) stands.near stands.dep stands.keeps (c.self.invariant.done (ap (λ (x : OfferWalkValue). x.ended) is ∙ ended)) v in
    carry (λ d edges starts run. IsTrue (has set v) ↔ IsReachedBy d edges starts run v) s.direction value.direction (edges_of s) value.graph.edges s.walk.starts value.starts (run_of s.asked.items) value.run
    (ap (λ (x : OfferWalkValue). x.direction) is) (ap (λ (x : OfferWalkValue). x.graph.edges) is) (ap (λ (x : OfferWalkValue). x.starts) is) (ap (λ (x : OfferWalkValue). x.run) is)
    (λ h. ends.0 (here.0 h), λ h. here.1 (ends.1 h))
