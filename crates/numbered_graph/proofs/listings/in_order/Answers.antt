use Rattle.std.proofs.Common.{◌≡◌, ◌≤◌, ◌++◌, take, ◌∷◌, [], length, get_or, map, take_all, refl, subst, sym, ap, ◌∙◌, IsPermutation, All, arith}
use Rattle.std.proofs.lemmas.List.{map_more}
use Rattle.std.proofs.lemmas.List.Elements.{All-map}
use Rattle.std.proofs.lemmas.List.Sorted.{IsPermutation-map, All-permutation, sorted_far, ranks_by}
use Rattle.numbered_graph.specs.contracts.listings.PlaceOrd.TheImpl.Laws.{total-law}
use Rattle.numbered_graph.specs.declared.listings.Place.{Place}
use Rattle.numbered_graph.specs.Listings.{numbers_below, IsInOrder}
use Rattle.numbered_graph.specs.Places.{place_of}
use Rattle.numbered_graph.proofs.ListingFacts.{lex, nodes-places, nodes_in_order}
use Rattle.numbered_graph.proofs.listings.in_order.Goals as goal

pub returns-clause-each : goal.returns-clause-each
returns-clause-each c =
    let nodes = λ (p : Place). p.node in
    let sorted = c.sort_unstable.new.self.items in
    let so_far = subst (λ ps. c.loop-place.nodes.items ≡ map nodes (take c.loop-place.place-index ps)) c.deref-place-items.ensures.value c.loop-place.invariant in
    let past = subst (λ ps. length ps ≤ c.loop-place.place-index) c.deref-place-items.ensures.value c.loop-place-test.false in
    let made = c.in_ok-places.ensures in
    let numbers = ap (map nodes) made ∙ nodes-places c.args.ranks.now c.args.firm_ranks.now (numbers_below (length c.args.ranks.now)) in
    let perm = subst (λ xs. IsPermutation xs (map nodes sorted)) numbers (IsPermutation-map nodes c.in_ok-places.places.items sorted c.sort_unstable.ensures.permutation) in
    subst (λ xs. IsPermutation (numbers_below (length c.args.ranks.now)) xs) (sym (so_far ∙ ap (map nodes) (take_all c.loop-place.place-index sorted past))) perm

pub returns-clause-order : goal.returns-clause-order
returns-clause-order c =
    let ranks = c.args.ranks.now in
    let firm_ranks = c.args.firm_ranks.now in
    let sorted = c.sort_unstable.new.self.items in
    let so_far = subst (λ ps. c.loop-place.nodes.items ≡ map (λ (p : Place). p.node) (take c.loop-place.place-index ps)) c.deref-place-items.ensures.value c.loop-place.invariant in
    let past = subst (λ ps. length ps ≤ c.loop-place.place-index) c.deref-place-items.ensures.value c.loop-place-test.false in
    let none : Place = record { rank = 0; firm_rank = 0; node = 0 } in
    let made : All (λ p. p ≡ place_of ranks firm_ranks p.node) c.in_ok-places.places.items = subst (λ ps. All (λ p. p ≡ place_of ranks firm_ranks p.node) ps) (sym c.in_ok-places.ensures) (All-map (λ p. p ≡ place_of ranks firm_ranks p.node) (place_of ranks firm_ranks) (numbers_below (length ranks)) (λ k d lt. refl)) in
    let placed = All-permutation (λ (p : Place). p ≡ place_of ranks firm_ranks p.node) c.in_ok-places.places.items sorted c.sort_unstable.ensures.permutation made in
    let order = nodes_in_order ranks firm_ranks sorted (λ i j lt small. lex _ _ _ _ (get_or sorted j none).node (get_or sorted i none).node (sorted_far _ (ranks_by total-law (λ (p : Place). p)) sorted c.sort_unstable.ensures.sorted i j none (omega arith) small)) placed in
    subst (IsInOrder ranks firm_ranks) (sym (so_far ∙ ap (map (λ (p : Place). p.node)) (take_all c.loop-place.place-index sorted past))) order

pub loop-place-preserved : goal.loop-place-preserved
loop-place-preserved c =
    let sorted = c.deref-place-items.result.now in
    let none : Place = record { rank = 0; firm_rank = 0; node = 0 } in
    let node = (get_or sorted c.loop-place.place-index none).node in
    c.in_ok-push.ensures.items ∙ ap (λ ns. ns ++ node ∷ []) c.loop-place.invariant ∙ sym (map_more (λ (p : Place). p.node) sorted c.loop-place.place-index none c.loop-place-test.true)
