use Rattle.std.proofs.Common.{refl, ◌≡◌, ◌++◌, Some, subst, sym, ap, ◌∙◌, arith}
use Rattle.numbered_offers.specs.Dues.{asked_of}
use Rattle.numbered_offers.specs.Graphs.{OfferGraphValue}
use Rattle.numbered_offers.specs.OfferWalks.{OfferWalkValue}
use Rattle.numbered_offers.specs.Runs.{Run}
use Rattle.guppy_package_graph.specs.Visits.{Chain}
use Rattle.guppy_feature_graph.specs.Closures.{AsksClosure}
use Rattle.guppy_feature_graph.proofs.ResolveFacts.{Chain-append, offer_below, resolved, run_more, walk_more}
use Rattle.guppy_feature_graph.proofs.resolving.show_to_closure_counted.Goals as goal

pub loop-due-preserved : goal.loop-due-preserved
loop-due-preserved g c =
    let q = c.args.query.now in
    let was = c.loop-due.invariant in
    let w = c.loop-due.walk in
    let taken = c.in-Some.ensures.kept in
    let answered = c.answer.ensures.answered in
    let due = c.in-Some.due in
    let a = c.ask_closure_due-first.result.0 in
    let b = c.ask_closure_due-first.result.1 in
    let more = asked_of (Some due) a b in
    let run : c.answer.new.self.run ≡ w.run ++ more = run_more q w c.take.new.self c.answer.new.self due a b taken answered in
    let R = AsksClosure g.F.FnMut q in
    let last = c.ask_closure_due-first.new.accepts in
    record {
      walk = walk_more q w c.take.new.self c.answer.new.self due a b was.walk taken answered;
      chain = subst (λ (r : Run). Chain R c.args.accepts.now r last) (sym run) (Chain-append R w.run more c.args.accepts.now c.loop-due.accepts last was.chain c.ask_closure_due-first.ensures.asks);
      callable = c.ask_closure_due-first.ensures.callable;
      looks = let looked = ap (λ (v : OfferWalkValue). v.looked) answered in let took = c.in-Some.ensures.looks in let so_far = was.looks in omega arith;
      bound = let looked = ap (λ (v : OfferWalkValue). v.looked) answered in let most = c.in-Some.ensures.bound in let of_graph = ap (λ (v : OfferWalkValue). v.graph) taken ∙ was.walk.graph in let nodes = ap (λ (x : OfferGraphValue). x.nodes) of_graph in omega arith;
    }

pub ask_closure_due-first-requires : goal.ask_closure_due-first-requires
ask_closure_due-first-requires g c = λ k. ((refl, tt), (c.loop-due.invariant.callable, λ o asked. offer_below c.args.query.now c.loop-due.walk c.loop-due.invariant.walk o (c.in-Some.ensures.due o asked).offered))

pub returns-clause-looks : goal.returns-clause-looks
returns-clause-looks g c =
    let was = c.loop-due.invariant in
    let none = c.in_default.ensures in
    let of_graph = ap (λ (v : OfferWalkValue). v.graph) none.kept ∙ was.walk.graph in
    let nodes = ap (λ (x : OfferGraphValue). x.nodes) of_graph in
    let took = none.looks in
    let most = none.bound in
    let so_far = was.looks in
    omega arith

pub returns-clause-ok : goal.returns-clause-ok
returns-clause-ok g c =
    let was = c.loop-due.invariant in
    let none = c.in_default.ensures in
    let included = c.into_included.ensures in
    let ended = ap (λ (v : OfferWalkValue). v.ended) none.kept in
    (c.loop-due.walk.run, resolved c.args.query.now c.loop-due.walk c.take.new.self c.into_included.result was.walk none.kept none.all included.sized (included.included ended), was.chain)
