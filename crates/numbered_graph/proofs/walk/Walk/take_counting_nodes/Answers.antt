use Rattle.std.proofs.Common.{◌+◌, ◌<◌, ◌≤◌, Some, length, refl, subst, ap, ◌∙◌, arith}
use Rattle.numbered_graph.specs.Walks.{WalkValue, taken_links, opened_of, IsDue, IsShowing}
use Rattle.numbered_graph.specs.Walking.{seen}
use Rattle.numbered_graph.proofs.WalkingFacts.{opened_bound, looked_bound, all_shown, one_more, in_cursors, Stands-passed, is_due, room_left, more_bound, Stands-taken}
use Rattle.numbered_graph.proofs.walk.Walk.take_counting_nodes.Goals as goal

pub loop-self-init : goal.loop-self-init
loop-self-init g c = record {
  stands = c.self.invariant;
  kept = ap (λ (v : WalkValue). record v { looked = (seen c.self.inside).looked }) c.self.view_is;
  looks = let opened = ap opened_of c.self.view_is in omega arith;
  links = let opened = ap opened_of c.self.view_is in let looked = ap (λ (v : WalkValue). v.looked) c.self.view_is in omega arith;
}

pub invariant_of-self : goal.invariant_of-self
invariant_of-self g c = c.loop-self.invariant.stands

pub index-number-requires : goal.index-number-requires
index-number-requires g c =
    let w = c.loop-self.self-inside in
    let lt : w.opened < length w.order.items = omega (arith, c.len.ensures) in
    let within = in_cursors w c.loop-self.invariant.stands c.index-node.result.now lt c.index-node.ensures in
    omega arith

pub index_mut-requires : goal.index_mut-requires
index_mut-requires g c =
    let w = c.loop-self.self-inside in
    let lt : w.opened < length w.order.items = omega (arith, c.len.ensures) in
    let within = in_cursors w c.loop-self.invariant.stands c.index-node.result.now lt c.index-node.ensures in
    omega arith

pub loop-self-smaller : goal.loop-self-smaller
loop-self-smaller g c =
    let w = c.loop-self.self-inside in
    let lt : w.opened < length w.order.items = omega (arith, c.len.ensures) in
    omega (arith, lt)

pub loop-self-preserved : goal.loop-self-preserved
loop-self-preserved g c =
    let w = c.loop-self.self-inside in
    let before = c.loop-self.invariant in
    let lt : w.opened < length w.order.items = omega (arith, c.len.ensures) in
    let done : length w.graph.now.links ≤ c.index-number.result.now = subst (λ links. length links ≤ c.index-number.result.now) c.links.ensures.value c.if-number-links.false in
    record {
      stands = Stands-passed w before.stands c.index-node.result.now lt c.index-node.ensures c.index-number.result.now c.index-number.ensures done;
      kept = ap (λ (v : WalkValue). record v { looked = w.opened + 1 + length (taken_links w.shown.items w.waiting) }) before.kept;
      looks = let looks = before.looks in let tick = c.tick.ensures in omega arith;
      links = let links = before.links in omega arith;
    }

pub invariant_of-self-then-number-links : goal.invariant_of-self-then-number-links
invariant_of-self-then-number-links g c =
    let w = c.loop-self.self-inside in
    let before = c.loop-self.invariant in
    let lt : w.opened < length w.order.items = omega (arith, c.len.ensures) in
    let idle = ap (λ (v : WalkValue). v.waiting) before.kept ∙ c.requires in
    let small = subst (λ links. c.index-number.result.now < length links) c.links.ensures.value c.if-number-links.true in
    Stands-taken w before.stands c.index-node.result.now lt c.index-node.ensures c.index-number.result.now c.index-number.ensures idle small c.next_of.result c.next_of.ensures _ refl

pub returns-then-number-links-clause-due : goal.returns-then-number-links-clause-due
returns-then-number-links-clause-due g c =
    let w = c.loop-self.self-inside in
    let before = c.loop-self.invariant in
    let lt : w.opened < length w.order.items = omega (arith, c.len.ensures) in
    let idle = ap (λ (v : WalkValue). v.waiting) before.kept ∙ c.requires in
    let small = subst (λ links. c.index-number.result.now < length links) c.links.ensures.value c.if-number-links.true in
    subst (λ (v : WalkValue). IsDue v.direction v.graph.links v.starts v.shown c.index-number.result.now) before.kept (is_due w before.stands c.index-node.result.now lt c.index-node.ensures c.index-number.result.now c.index-number.ensures idle small c.next_of.result c.next_of.ensures)

pub returns-then-number-links-clause-room : goal.returns-then-number-links-clause-room
returns-then-number-links-clause-room g c =
    let w = c.loop-self.self-inside in
    let before = c.loop-self.invariant in
    let lt : w.opened < length w.order.items = omega (arith, c.len.ensures) in
    let idle = ap (λ (v : WalkValue). v.waiting) before.kept ∙ c.requires in
    let small = subst (λ links. c.index-number.result.now < length links) c.links.ensures.value c.if-number-links.true in
    subst (λ (v : WalkValue). length v.shown < length v.graph.links) before.kept (room_left w before.stands c.index-node.result.now lt c.index-node.ensures c.index-number.result.now c.index-number.ensures idle small c.next_of.result c.next_of.ensures)

pub returns-then-number-links-clause-kept : goal.returns-then-number-links-clause-kept
returns-then-number-links-clause-kept g c =
    let w = c.loop-self.self-inside in
    let number = c.index-number.result.now in
    ap (λ (v : WalkValue). record v { waiting = Some number; looked = w.opened + length (taken_links w.shown.items (Some number)) }) c.loop-self.invariant.kept

pub returns-then-number-links-clause-looks : goal.returns-then-number-links-clause-looks
returns-then-number-links-clause-looks g c = let looks = c.loop-self.invariant.looks in omega arith

pub returns-then-number-links-clause-nodes : goal.returns-then-number-links-clause-nodes
returns-then-number-links-clause-nodes g c = let nodes = opened_bound c.loop-self.self-inside c.loop-self.invariant.stands in omega arith

pub returns-then-number-links-clause-link : goal.returns-then-number-links-clause-link
returns-then-number-links-clause-link g c =
    let before = c.loop-self.invariant in
    let idle = ap (λ (v : WalkValue). v.waiting) before.kept ∙ c.requires in
    let more = one_more c.loop-self.self-inside before.stands idle c.index-number.result.now in
    let links = before.links in
    omega arith

pub returns-then-number-links-clause-bound : goal.returns-then-number-links-clause-bound
returns-then-number-links-clause-bound g c =
    let w = c.loop-self.self-inside in
    let before = c.loop-self.invariant in
    let lt : w.opened < length w.order.items = omega (arith, c.len.ensures) in
    let idle = ap (λ (v : WalkValue). v.waiting) before.kept ∙ c.requires in
    let small = subst (λ links. c.index-number.result.now < length links) c.links.ensures.value c.if-number-links.true in
    more_bound w before.stands c.index-node.result.now lt c.index-node.ensures c.index-number.result.now c.index-number.ensures idle small c.next_of.result c.next_of.ensures

pub returns-clause-all : goal.returns-clause-all
returns-clause-all g c =
    let w = c.loop-self.self-inside in
    let before = c.loop-self.invariant in
    let idle = ap (λ (v : WalkValue). v.waiting) before.kept ∙ c.requires in
    let past : length w.order.items ≤ w.opened = omega (arith, c.len.ensures) in
    subst (λ (v : WalkValue). IsShowing v.direction v.graph.links v.starts v.shown) before.kept (all_shown w before.stands idle past)

pub returns-clause-kept : goal.returns-clause-kept
returns-clause-kept g c =
    c.loop-self.invariant.kept ∙ ap (λ o. record c.args.self.now { waiting = o; looked = (seen c.loop-self.self-inside).looked }) c.requires

pub returns-clause-looks : goal.returns-clause-looks
returns-clause-looks g c = let looks = c.loop-self.invariant.looks in omega arith

pub returns-clause-nodes : goal.returns-clause-nodes
returns-clause-nodes g c = let nodes = opened_bound c.loop-self.self-inside c.loop-self.invariant.stands in omega arith

pub returns-clause-link : goal.returns-clause-link
returns-clause-link g c = let links = c.loop-self.invariant.links in omega arith

pub returns-clause-bound : goal.returns-clause-bound
returns-clause-bound g c = looked_bound c.loop-self.self-inside c.loop-self.invariant.stands
