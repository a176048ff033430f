use Rattle.std.proofs.Common.{◌≡◌, ℕ, Bool, None, ◌++◌, ◌∷◌, [], ◌↔◌, IsTrue, All, length, refl, subst, sym, ap, ◌∙◌, arith}
use Rattle.std.proofs.lemmas.List.{length_push}
use Rattle.std.proofs.lemmas.List.Elements.{All-push}
use Rattle.numbered_graph.specs.Graphs.{GraphValue}
use Rattle.numbered_graph.specs.Paths.{IsReached}
use Rattle.numbered_graph.specs.Sets.{has}
use Rattle.numbered_graph.specs.Walks.{WalkValue, IsIncluded}
use Rattle.numbered_graph.proofs.WalkFacts.{included_by_test}
use Rattle.numbered_graph.proofs.reaching.reach_over_counted.Goals as goal

pub loop-number-preserved : goal.loop-number-preserved
loop-number-preserved g c =
    let before = c.loop-number.invariant in
    let flag = has c.args.passes.now c.in-Some.number in
    let after = c.answer.ensures.answered ∙ ap (λ (w : WalkValue). record w { waiting = None; shown = w.shown ++ (c.in-Some.number, flag) ∷ [] }) c.in-Some.ensures.kept in
    let graph = ap (λ (w : WalkValue). w.graph) after ∙ before.graph in
    let looked = ap (λ (w : WalkValue). w.looked) after in
    record {
      graph = graph;
      direction = ap (λ (w : WalkValue). w.direction) after ∙ before.direction;
      starts = ap (λ (w : WalkValue). w.starts) after ∙ before.starts;
      idle = ap (λ (w : WalkValue). w.waiting) after;
      answers = subst (λ shown. All (λ (s : ℕ × Bool). s.1 ≡ has c.args.passes.now s.0) shown) (sym (ap (λ (w : WalkValue). w.shown) after)) (All-push (λ (s : ℕ × Bool). s.1 ≡ has c.args.passes.now s.0) c.loop-number.walk.shown (c.in-Some.number, flag) before.answers refl);
      looks = let looks = before.looks in let more = c.in-Some.ensures.looks in omega arith;
      bound = let taken = ap (λ (w : WalkValue). w.graph) c.in-Some.ensures.kept ∙ before.graph in let nodes = ap (λ (v : GraphValue). v.nodes) taken in let links = ap (λ (v : GraphValue). length v.links) taken in let most = c.in-Some.ensures.bound in omega arith;
    }

pub returns-clause-reached : goal.returns-clause-reached
returns-clause-reached g c = λ v.
    let walk = c.loop-number.walk in
    let before = c.loop-number.invariant in
    let reached = c.into_included.result in
    let included = subst (λ (w : WalkValue). IsTrue (has reached v) ↔ IsIncluded w.direction w.graph.links w.starts w.shown v) c.in_default.ensures.kept (c.into_included.ensures.included v) in
    let flagged = included_by_test walk.shown (has c.args.passes.now) before.answers c.in_default.ensures.all v in
    let here : IsTrue (has reached v) ↔ IsReached walk.direction walk.graph.links (has c.args.passes.now) walk.starts v = (λ h. flagged.0 (included.0 h), λ h. included.1 (flagged.1 h)) in
    let by_graph = subst (λ (x : GraphValue). IsTrue (has reached v) ↔ IsReached walk.direction x.links (has c.args.passes.now) walk.starts v) before.graph here in
    let by_direction = subst (λ d. IsTrue (has reached v) ↔ IsReached d c.args.graph.now.links (has c.args.passes.now) walk.starts v) before.direction by_graph in
    subst (λ starts. IsTrue (has reached v) ↔ IsReached c.args.direction c.args.graph.now.links (has c.args.passes.now) starts v) before.starts by_direction

pub loop-number-init : goal.loop-number-init
loop-number-init g c =
    let started = c.in_ok-walk.ensures.started in
    let looked = ap (λ (w : WalkValue). w.looked) started in
    record {
      graph = ap (λ (w : WalkValue). w.graph) started;
      direction = ap (λ (w : WalkValue). w.direction) started;
      starts = ap (λ (w : WalkValue). w.starts) started;
      idle = ap (λ (w : WalkValue). w.waiting) started;
      answers = subst (λ shown. All (λ (s : ℕ × Bool). s.1 ≡ has c.args.passes.now s.0) shown) (sym (ap (λ (w : WalkValue). w.shown) started)) (λ k d lt. absurd (omega arith));
      looks = omega arith;
      bound = omega arith;
    }

pub take-requires : goal.take-requires
take-requires g c = c.loop-number.invariant.idle

pub answer-requires : goal.answer-requires
answer-requires g c = ap (λ (w : WalkValue). w.waiting) c.in-Some.ensures.kept

pub loop-number-smaller : goal.loop-number-smaller
loop-number-smaller g c =
    let kept = c.in-Some.ensures.kept in
    let answered = c.answer.ensures.answered in
    let size = ap (λ (w : WalkValue). length w.shown) answered ∙ length_push _ _ in
    let was = ap (λ (w : WalkValue). length w.shown) kept in
    let links = ap (λ (w : WalkValue). length w.graph.links) answered ∙ ap (λ (w : WalkValue). length w.graph.links) kept in
    let room = c.in-Some.ensures.room in
    omega arith

pub returns-clause-sized : goal.returns-clause-sized
returns-clause-sized g c =
    c.into_included.ensures.sized ∙ ap (λ (w : WalkValue). w.graph.nodes) c.in_default.ensures.kept ∙ ap (λ (x : GraphValue). x.nodes) c.loop-number.invariant.graph

pub returns-clause-looks : goal.returns-clause-looks
returns-clause-looks g c =
    let graph = ap (λ (w : WalkValue). w.graph) c.in_default.ensures.kept ∙ c.loop-number.invariant.graph in
    let nodes = ap (λ (x : GraphValue). x.nodes) graph in
    let links = ap (λ (x : GraphValue). length x.links) graph in
    let looks = c.in_default.ensures.looks in
    let bound = c.in_default.ensures.bound in
    let before = c.loop-number.invariant.looks in
    omega arith
