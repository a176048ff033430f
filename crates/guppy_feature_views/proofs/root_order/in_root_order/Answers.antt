use Rattle.std.proofs.Common.{◌∙◌, ap, map, subst, sym, take_all, refl, ⊎_elim, IsPermutation}
use Rattle.list_facts.proofs.Lists.{mapped_more}
use Rattle.guppy_feature_views.specs.RootOrder.{Ascend}
use Rattle.guppy_feature_views.proofs.RootOrderFacts.{moved_nodes, node_of, nodes_ascend, none_ascend}
use Rattle.guppy_feature_views.proofs.root_order.in_root_order.Goals as goal

pub returns-clause-each : goal.returns-clause-each
returns-clause-each c =
    let nodes = c.args.nodes.now in
    let is = c.loop-place.invariant ∙ ap (map node_of) (take_all c.loop-place.place-index c.deref-place-items.result.now c.loop-place-test.false ∙ c.deref-place-items.ensures.value) in
    subst (λ ns. IsPermutation nodes ns) (sym is) (moved_nodes c.args.built.now nodes c.in_ok-places.places.items c.sort_unstable.new.self.items c.in_ok-places.ensures.places c.sort_unstable.ensures.permutation)

pub returns-clause-order : goal.returns-clause-order
returns-clause-order c =
    let g = c.args.built.now in
    let places = c.in_ok-places.places.items in
    let sorted = c.sort_unstable.new.self.items in
    let moved = c.sort_unstable.ensures.permutation in
    let is = c.loop-place.invariant ∙ ap (map node_of) (take_all c.loop-place.place-index c.deref-place-items.result.now c.loop-place-test.false ∙ c.deref-place-items.ensures.value) in
    subst (Ascend g) (sym is) (⊎_elim (λ none. none_ascend g places sorted none moved) (λ are. nodes_ascend g are c.args.nodes.now places sorted c.in_ok-places.ensures.places c.requires.within c.requires.apart moved c.sort_unstable.ensures.sorted) c.in_ok-places.ensures.features)

pub loop-place-preserved : goal.loop-place-preserved
loop-place-preserved c =
    mapped_more node_of c.loop-place.ordered.items c.push.new.self.items _ c.deref-place-items.result.now c.loop-place.place-index _ c.loop-place-test.true c.in_ok-push.ensures.items refl c.loop-place.invariant
