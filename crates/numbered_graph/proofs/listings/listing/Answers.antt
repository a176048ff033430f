use Rattle.std.proofs.Common.{◌≡◌, true, length, replicate, subst, ap, ◌∙◌, IsPermutation}
use Rattle.numbered_graph.specs.Ranks.{AreRanks}
use Rattle.numbered_graph.specs.Sets.{has}
use Rattle.numbered_graph.specs.Listings.{numbers_below, IsInOrder}
use Rattle.numbered_graph.proofs.PathFacts.{Reaches-by_all}
use Rattle.numbered_graph.proofs.ListingFacts.{IfOk-both, IsListing-from_ranks}
use Rattle.numbered_graph.proofs.RankFacts.{AreRanks-by_all}
use Rattle.numbered_graph.proofs.listings.listing.Goals as goal

pub returns : goal.returns
returns c =
    let links = c.args.graph.now.links in
    let nodes = c.args.graph.now.nodes in
    let flags : c.deref.result.now ≡ replicate (length links) true = c.deref.ensures.value ∙ c.in_ok-all.ensures ∙ ap (λ ls. replicate (length ls) true) c.links.ensures.value in
    let by_flags = subst (λ passes. AreRanks links (has passes) nodes c.in_ok-ranks.ranks.items) flags c.in_ok-ranks.ensures.ranks in
    let all = AreRanks-by_all links (has (replicate (length links) true)) nodes c.in_ok-ranks.ranks.items (Reaches-by_all links) by_flags in
    let ranks = c.deref-2.ensures.value in
    let firm_ranks = c.deref-3.ensures.value in
    record {
      listing = IfOk-both c.in_order.result c.in_order.ensures.each c.in_order.ensures.order (λ xs each order. IsListing-from_ranks all c.in_ok-firm_ranks.ensures.ranks
          (subst (λ n. IsPermutation (numbers_below n) xs.items) (ap length ranks ∙ all.sized) each)
          (subst (λ rs. IsInOrder rs c.in_ok-firm_ranks.firm_ranks.items xs.items) ranks (subst (λ fs. IsInOrder c.deref-2.result.now fs xs.items) firm_ranks order)));
    }
