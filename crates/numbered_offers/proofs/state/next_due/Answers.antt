use Rattle.std.proofs.Common.{ℕ, List, length, append-nil, refl, subst, sym, ap, ◌∙◌, arith}
use Rattle.numbered_graph.specs.declared.direction.Direction.{Direction}
use Rattle.numbered_graph.specs.declared.link.Link.{Link}
use Rattle.numbered_graph.specs.Graphs.{GraphValue}
use Rattle.numbered_graph.specs.Walks.{IsShowing, Shown, WalkValue, opened_of}
use Rattle.numbered_offers.specs.Keeping.{run_of}
use Rattle.numbered_offers.specs.States.{WaitsFor}
use Rattle.numbered_offers.proofs.StateFacts.{none_of, walk_rests, walk_meets}
use Rattle.numbered_offers.proofs.state.next_due.Goals as goal

pub loop-number-preserved : goal.loop-number-preserved
loop-number-preserved g c =
    let before = c.loop-number.invariant in
    let kept = c.in-Some.ensures.kept in
    let met = c.meet_link-due.ensures in
    let settled = c.settle.ensures in
    record {
      rests = settled.rests;
      run = settled.run ∙ append-nil (run_of c.meet_link-due.new.state.asked.items) ∙ met.run ∙ before.run;
      walk = record {
        graph = settled.walk.graph ∙ met.graph ∙ before.walk.graph;
        direction = settled.walk.direction ∙ met.direction ∙ before.walk.direction;
        starts = settled.walk.starts ∙ ap (λ (w : WalkValue). w.starts) met.walk ∙ ap (λ (w : WalkValue). w.starts) kept ∙ before.walk.starts;
      };
      shown = let was = before.shown in let one = settled.shown in let same = ap (λ (w : WalkValue). length w.shown) kept in let still = ap (λ (w : WalkValue). length w.shown) met.walk in omega arith;
      looks = let was = before.looks in let took = c.in-Some.ensures.looks in let same = settled.opened in let still = ap opened_of met.walk in omega arith;
    }

pub meet_link-due-requires : goal.meet_link-due-requires
meet_link-due-requires g c =
    let kept = c.in-Some.ensures.kept in
    record { meets = walk_meets c.loop-number.state c.take_counting_nodes.new.self _ (ap (λ (w : WalkValue). w.graph) kept) (ap (λ (w : WalkValue). w.direction) kept) (ap (λ (w : WalkValue). w.starts) kept) (ap (λ (w : WalkValue). w.shown) kept) c.in-Some.ensures.nodes c.loop-number.invariant.rests c.in-Some.number (ap (λ (w : WalkValue). w.waiting) kept) c.in-Some.ensures.due c.in-Some.ensures.room }

pub settle-requires : goal.settle-requires
settle-requires g c = record { waits = subst (WaitsFor c.meet_link-due.new.state) (none_of c.meet_link-due.result (sym c.is_some.ensures ∙ c.if-is_some.false)) c.meet_link-due.ensures.waits }

pub returns-clause-rests : goal.returns-clause-rests
returns-clause-rests g c =
    let kept = c.in_default.ensures.kept in
    walk_rests c.loop-number.state c.take_counting_nodes.new.self _ (ap (λ (w : WalkValue). w.graph) kept) (ap (λ (w : WalkValue). w.direction) kept) (ap (λ (w : WalkValue). w.starts) kept) (ap (λ (w : WalkValue). w.shown) kept) c.in_default.ensures.nodes c.loop-number.invariant.rests (ap (λ (w : WalkValue). w.waiting) kept)

pub loop-number-init : goal.loop-number-init
loop-number-init g c = record {
  rests = c.requires.rests;
  run = refl;
  walk = record { graph = refl; direction = refl; starts = refl };
  shown = omega arith;
  looks = refl;
}

pub take_counting_nodes-requires : goal.take_counting_nodes-requires
take_counting_nodes-requires g c = c.loop-number.invariant.rests.idle

pub returns-then-is_some-clause-run : goal.returns-then-is_some-clause-run
returns-then-is_some-clause-run g c = c.meet_link-due.ensures.run ∙ c.loop-number.invariant.run

pub returns-then-is_some-clause-walk : goal.returns-then-is_some-clause-walk
returns-then-is_some-clause-walk g c =
    let before = c.loop-number.invariant.walk in
    let met = c.meet_link-due.ensures in
    record {
      graph = met.graph ∙ before.graph;
      direction = met.direction ∙ before.direction;
      starts = ap (λ (w : WalkValue). w.starts) met.walk ∙ ap (λ (w : WalkValue). w.starts) c.in-Some.ensures.kept ∙ before.starts;
    }

pub returns-clause-all : goal.returns-clause-all
returns-clause-all g c =
    let kept = c.in_default.ensures.kept in
    let stands = c.loop-number.invariant.rests.stands in
    let links = ap (λ (x : GraphValue). x.links) stands.graph in
    let starts = sym (ap (λ (w : WalkValue). w.starts) kept) in
    let shown = sym (ap (λ (w : WalkValue). w.shown) kept) in
    subst (λ (x : Direction × List Link × List ℕ × Shown). IsShowing x.0 x.1 x.2 x.3) (λ i. (stands.direction i, links i, starts i, shown i)) c.in_default.ensures.all

pub returns-clause-run : goal.returns-clause-run
returns-clause-run g c = c.loop-number.invariant.run

pub returns-clause-walk : goal.returns-clause-walk
returns-clause-walk g c =
    let before = c.loop-number.invariant.walk in
    record { graph = before.graph; direction = before.direction; starts = ap (λ (w : WalkValue). w.starts) c.in_default.ensures.kept ∙ before.starts }

pub returns-clause-bound : goal.returns-clause-bound
returns-clause-bound g c =
    let nodes = ap (λ (w : WalkValue). w.graph.nodes) c.in_default.ensures.kept ∙ ap (λ (x : GraphValue). x.nodes) c.loop-number.invariant.rests.stands.graph in
    let bound = c.in_default.ensures.nodes in
    omega arith
