use Rattle.std.proofs.Common.{◌≡◌, ℕ, Bool, true, None, ◌++◌, ◌∷◌, [], ◌↔◌, All, refl, subst, sym, ap, ◌∙◌, true≢false}
use Rattle.std.proofs.lemmas.List.Elements.{All-push}
use Rattle.numbered_graph.specs.declared.direction.Direction.TheVariants.{Forward}
use Rattle.numbered_graph.specs.Graphs.{GraphValue}
use Rattle.numbered_graph.specs.Paths.{any_link, IsReached, Reaches}
use Rattle.numbered_graph.specs.Walks.{WalkValue}
use Rattle.numbered_graph.proofs.PathFacts.{reached_from_one}
use Rattle.numbered_graph.proofs.WalkFacts.{included_reached, included_by_test}
use Rattle.numbered_graph.proofs.reaching.leads_to.Goals as goal

pub loop-walk-preserved : goal.loop-walk-preserved
loop-walk-preserved c =
    let before = c.loop-walk.invariant in
    let after = c.answer.ensures.answered ∙ ap (λ (w : WalkValue). record w { waiting = None; shown = w.shown ++ (c.in-Some.number, true) ∷ [] }) c.in-Some.ensures.kept in
    record {
      graph = ap (λ (w : WalkValue). w.graph) after ∙ before.graph;
      direction = ap (λ (w : WalkValue). w.direction) after ∙ before.direction;
      starts = ap (λ (w : WalkValue). w.starts) after ∙ before.starts;
      idle = ap (λ (w : WalkValue). w.waiting) after;
      answers = subst (λ shown. All (λ (s : ℕ × Bool). s.1 ≡ true) shown) (sym (ap (λ (w : WalkValue). w.shown) after)) (All-push (λ (s : ℕ × Bool). s.1 ≡ true) c.loop-walk.walk.shown (c.in-Some.number, true) before.answers refl);
    }

-- what the walk reaches from its only start
reached_by : (walk : WalkValue) (graph : GraphValue) (from to : ℕ) → walk.graph ≡ graph → walk.direction ≡ Forward → walk.starts ≡ from ∷ [] → IsReached walk.direction walk.graph.links any_link walk.starts to ↔ Reaches graph.links any_link from to
reached_by walk graph from to is_graph is_direction is_starts =
    let by_start = subst (λ starts. IsReached Forward graph.links any_link starts to ↔ Reaches graph.links any_link from to) (sym is_starts) (reached_from_one graph.links any_link from to) in
    let by_direction = subst (λ d. IsReached d graph.links any_link walk.starts to ↔ Reaches graph.links any_link from to) (sym is_direction) by_start in
    subst (λ (x : GraphValue). IsReached walk.direction x.links any_link walk.starts to ↔ Reaches graph.links any_link from to) (sym is_graph) by_direction

pub returns-in-None : goal.returns-in-None
returns-in-None c =
    let walk = c.loop-walk.walk in
    let before = c.loop-walk.invariant in
    let included = included_by_test walk.shown any_link before.answers c.in-None.ensures.all c.args.to in
    let reached = reached_by walk c.args.graph.now c.args.from c.args.to before.graph before.direction before.starts in
    record { leads = (λ is. absurd (true≢false (sym is)), λ leads. c.loop-walk-test.ensures.included.1 (included.1 (reached.1 leads))) }

pub returns : goal.returns
returns c =
    let walk = c.loop-walk.walk in
    let before = c.loop-walk.invariant in
    let included = included_reached walk.shown any_link before.answers walk.direction walk.graph.links walk.starts c.args.to (c.loop-walk-test.ensures.included.0 refl) in
    let reached = reached_by walk c.args.graph.now c.args.from c.args.to before.graph before.direction before.starts in
    record { leads = (λ is. reached.0 included, λ leads. refl) }
