use Rattle.std.proofs.Common.{◌≡◌, ℕ, Bool, List, length, replicate, false, rules, refl, sym, ap, ◌∙◌, arith}
use Rattle.numbered_graph.specs.Graphs.{GraphValue}
use Rattle.numbered_graph.specs.Walks.{WalkValue, opened_of}
use Rattle.numbered_offers.specs.declared.edge.Edge.{Edge}
use Rattle.numbered_offers.specs.Counts.{optional_premises}
use Rattle.numbered_offers.proofs.CountFacts.{counted_start}
use Rattle.numbered_offers.proofs.EndFacts.{keeps_start}
use Rattle.numbered_offers.proofs.state.started.Goals.{in-Forward, in-Reverse}
use Rattle.numbered_offers.proofs.state.started.Goals as goal

pub returns-clause-rests : goal.returns-clause-rests
returns-clause-rests c =
    let w = c.in_ok-walk.ensures.started in
    let edges = c.args.graph.now.edges in
    let whole : c.in_ok-whole_open.whole_open.items ≡ replicate (length c.edges-edges.result.now) 1 = search rules in
    let optional : c.in_ok-optional_open.optional_open.items ≡ replicate (length c.edges-edges.result.now) c.match-direction.premises = search rules in
    let premises : c.match-direction.premises ≡ optional_premises c.args.direction = elim c.match-direction.branch [
      | in-Forward w ↦ w.premises-is ∙ ap optional_premises (sym w.in-Forward.is)
      | in-Reverse w ↦ w.premises-is ∙ ap optional_premises (sym w.in-Reverse.is)
    ] in
    let no : List Bool = replicate (length edges) false in
    record {
      stands = record {
        near = no;
        dep = no;
        graph = ap (λ (v : WalkValue). v.graph) w ∙ c.graph-2.ensures;
        direction = ap (λ (v : WalkValue). v.direction) w;
        keeps = rw (w, c.in_ok-asked.ensures.items) (keeps_start c.args.direction edges c.args.starts.now no no refl refl);
        counted = let size = ap length c.in_ok-asked.ensures.items in omega arith;
        room = let room = c.in_ok-asked.ensures.capacity in let size = ap length (c.links.ensures.value ∙ ap (λ (g : GraphValue). g.links) c.graph.ensures) in omega arith;
        bound = let opened = ap opened_of w in omega arith;
      };
      counts = counted_start c.args.direction edges c.in_ok-whole_open.whole_open.items c.in_ok-optional_open.optional_open.items
          (whole ∙ ap (λ (es : List Edge). replicate (length es) 1) c.edges-edges.ensures.value)
          (optional ∙ ap (λ (n : ℕ). replicate (length c.edges-edges.result.now) n) premises ∙ ap (λ (es : List Edge). replicate (length es) (optional_premises c.args.direction)) c.edges-edges.ensures.value);
      idle = ap (λ (v : WalkValue). v.waiting) w;
    }
