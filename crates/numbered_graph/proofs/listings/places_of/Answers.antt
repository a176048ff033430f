use Rattle.std.proofs.Common.{◌≡◌, ◌++◌, ◌∷◌, [], add-one, length, map, ap, sym, ◌∙◌, arith}
use Rattle.std.proofs.lemmas.List.{map_push}
use Rattle.numbered_graph.specs.Listings.{numbers_below}
use Rattle.numbered_graph.specs.Places.{place_of}
use Rattle.numbered_graph.proofs.listings.places_of.Goals as goal

pub loop-node-preserved : goal.loop-node-preserved
loop-node-preserved c =
    let place = place_of c.args.ranks.now c.args.firm_ranks.now in
    let node = c.loop-node.node in
    c.in_ok-push.ensures.items ∙ ap (λ ps. ps ++ place node ∷ []) c.loop-node.invariant ∙ sym (map_push place (numbers_below node) node) ∙ ap (λ n. map place (numbers_below n)) (sym (add-one node))

pub returns : goal.returns
returns c =
    let end : c.loop-node.node ≡ length c.args.ranks.now = omega arith in
    c.loop-node.invariant ∙ ap (λ n. map (place_of c.args.ranks.now c.args.firm_ranks.now) (numbers_below n)) end
