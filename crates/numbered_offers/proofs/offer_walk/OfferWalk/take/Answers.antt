use Rattle.std.proofs.Common.{Some, true, ap, ◌∙◌, arith}
use Rattle.std.proofs.lemmas.Option.{IfSome_then}
use Rattle.std.specs.Borrow.{Bor}
use Rattle.numbered_offers.specs.Graphs.{OfferGraphValue}
use Rattle.numbered_offers.specs.Keeping.{run_of}
use Rattle.numbered_offers.specs.OfferWalks.{OfferWalkValue}
use Rattle.numbered_offers.specs.Runs.{IsDue, IsLegalRun}
use Rattle.numbered_offers.specs.States.{edges_of}
use Rattle.numbered_offers.proofs.EndFacts.{legal_end, halves_few}
use Rattle.numbered_offers.proofs.StepFacts.{all_due}
use Rattle.numbered_offers.proofs.ViewFacts.{carry, none_then}
use Rattle.numbered_offers.proofs.offer_walk.OfferWalk.take.Goals as goal

pub returns-clause-due : goal.returns-clause-due
returns-clause-due g c =
    let t = c.next_due-due.new.state in
    let v = c.args.self.now in
    let walk = c.next_due-due.ensures.walk in
    let is = c.self.view_is in
    IfSome_then c.next_due-due.result c.next_due-due.ensures.waits (λ due h o a.
    carry (λ d edges starts run. IsDue d edges starts run o) t.direction v.direction (edges_of t) v.graph.edges t.walk.starts v.starts (run_of t.asked.items) v.run
    (walk.direction ∙ ap (λ (x : OfferWalkValue). x.direction) is)
    (ap (λ (x : Bor OfferGraphValue). x.now.edges) walk.graph ∙ ap (λ (x : OfferWalkValue). x.graph.edges) is)
    (walk.starts ∙ ap (λ (x : OfferWalkValue). x.starts) is)
    (c.next_due-due.ensures.run ∙ ap (λ (x : OfferWalkValue). x.run) is)
    (all_due t.direction (edges_of t) t.walk.starts t.walk.shown (run_of t.asked.items) h.stands.near h.stands.dep t.link (Some due) true true h.stands.keeps h.link_due h.offers o a))

pub returns-clause-all : goal.returns-clause-all
returns-clause-all g c =
    let t = c.next_due-due.new.state in
    let v = c.args.self.now in
    let walk = c.next_due-due.ensures.walk in
    let is = c.self.view_is in
    none_then c.next_due-due.result c.next_due-due.ensures.rests c.next_due-due.ensures.all (λ rests showing.
    carry (λ d edges starts run. IsLegalRun d edges starts run) t.direction v.direction (edges_of t) v.graph.edges t.walk.starts v.starts (run_of t.asked.items) v.run
    (walk.direction ∙ ap (λ (x : OfferWalkValue). x.direction) is)
    (ap (λ (x : Bor OfferGraphValue). x.now.edges) walk.graph ∙ ap (λ (x : OfferWalkValue). x.graph.edges) is)
    (walk.starts ∙ ap (λ (x : OfferWalkValue). x.starts) is)
    (c.next_due-due.ensures.run ∙ ap (λ (x : OfferWalkValue). x.run) is)
    (legal_end t.direction (edges_of t) t.walk.starts t.walk.shown (run_of t.asked.items) rests.stands.near rests.stands.dep rests.stands.keeps showing))

pub returns-clause-room : goal.returns-clause-room
returns-clause-room g c = IfSome_then c.next_due-due.result c.next_due-due.ensures.waits (λ due h. let left = h.left in let few = halves_few (edges_of c.next_due-due.new.state) in omega arith)

pub next_due-due-requires : goal.next_due-due-requires
next_due-due-requires g c = record { rests = c.self.invariant.rests (ap (λ (v : OfferWalkValue). v.waiting) c.self.view_is ∙ c.requires) }
