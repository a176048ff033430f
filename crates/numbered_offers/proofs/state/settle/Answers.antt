use Rattle.std.proofs.Common.{add-one, length, refl, ap, ◌∙◌, arith}
use Rattle.std.proofs.lemmas.List.{length_push}
use Rattle.numbered_graph.specs.Walks.{WalkValue, opened_of}
use Rattle.numbered_graph.proofs.WalkFacts.{opened-answered}
use Rattle.numbered_offers.specs.Keeping.{near_after, dep_after, run_of}
use Rattle.numbered_offers.specs.States.{edges_of}
use Rattle.numbered_offers.proofs.StepFacts.{step}
use Rattle.numbered_offers.proofs.state.settle.Goals as goal

pub returns-clause-rests : goal.returns-clause-rests
returns-clause-rests c =
    let s = c.args.state.now in
    let waits = c.requires.waits in
    let before = waits.stands in
    let after = c.answer.ensures.answered in
    let edges = edges_of s in
    record {
      stands = record {
        near = near_after edges s.link before.near;
        dep = dep_after edges s.link before.dep;
        graph = ap (λ (w : WalkValue). w.graph) after ∙ before.graph;
        direction = ap (λ (w : WalkValue). w.direction) after ∙ before.direction;
        keeps = rw (after, c.is_accepted-accepted.ensures, c.note.ensures.run)
            (step s.direction edges s.walk.starts s.walk.shown (run_of s.asked.items) before.near before.dep s.link c.args.due c.args.first c.args.second before.keeps waits.link_due waits.offers);
        counted = let more = c.note.ensures.count in let was = before.counted in let size = ap (λ (w : WalkValue). length w.shown) after ∙ length_push s.walk.shown _ in omega arith;
        room = let grown = c.note.ensures.capacity in let was = before.room in omega arith;
        bound = let opened = ap opened_of after ∙ opened-answered s.walk s.link c.is_accepted-accepted.result waits.waiting in let was = before.bound in omega arith;
      };
      counts = waits.counts;
      idle = ap (λ (w : WalkValue). w.waiting) after;
    }

pub answer-requires : goal.answer-requires
answer-requires c = c.requires.waits.waiting

pub returns-clause-run : goal.returns-clause-run
returns-clause-run c = c.note.ensures.run

pub returns-clause-walk : goal.returns-clause-walk
returns-clause-walk c = record { graph = refl; direction = refl; starts = ap (λ (w : WalkValue). w.starts) c.answer.ensures.answered }

pub returns-clause-shown : goal.returns-clause-shown
returns-clause-shown c =
    ap (λ (w : WalkValue). length w.shown) c.answer.ensures.answered ∙ length_push c.args.state.now.walk.shown _ ∙ add-one (length c.args.state.now.walk.shown)

pub returns-clause-opened : goal.returns-clause-opened
returns-clause-opened c = ap opened_of c.answer.ensures.answered ∙ opened-answered c.args.state.now.walk c.args.state.now.link c.is_accepted-accepted.result c.requires.waits.waiting
