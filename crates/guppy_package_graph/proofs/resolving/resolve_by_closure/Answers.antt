use Rattle.std.proofs.Common.{◌≡◌, ◌++◌, ◌∷◌, [], subst, sym}
use Rattle.numbered_graph.specs.Walks.{Shown}
use Rattle.guppy_package_graph.specs.Closures.{AsksClosure}
use Rattle.guppy_package_graph.specs.Visits.{Chain}
use Rattle.guppy_package_graph.proofs.ResolveFacts.{Chain-push, resolved, shown_then, walk_more}
use Rattle.guppy_package_graph.proofs.resolving.resolve_by_closure.Goals as goal

pub loop-number-preserved : goal.loop-number-preserved
loop-number-preserved g c =
    let q = c.args.query.now in
    let was = c.loop-number.invariant in
    let w = c.loop-number.walk in
    let number = c.in-Some.number in
    let accepted = c.ask_closure-accepted.result in
    let shown : c.answer.new.self.shown ≡ w.shown ++ (number, accepted) ∷ [] =
    shown_then q w c.take_uncounted.new.walk c.answer.new.self number accepted c.in-Some.ensures.kept c.answer.ensures.answered in
    let R = AsksClosure g.F.FnMut q in
    record {
      walk = walk_more q w c.take_uncounted.new.walk c.answer.new.self number accepted was.walk c.in-Some.ensures.kept c.answer.ensures.answered;
      chain = subst (λ (s : Shown). Chain R c.args.accepts.now s c.ask_closure-accepted.new.accepts) (sym shown)
          (Chain-push R w.shown c.args.accepts.now c.loop-number.accepts c.ask_closure-accepted.new.accepts number accepted was.chain c.ask_closure-accepted.ensures.asks);
      callable = c.ask_closure-accepted.ensures.callable;
    }

pub returns-clause-ok : goal.returns-clause-ok
returns-clause-ok g c =
    let was = c.loop-number.invariant in
    let none = c.in_default.ensures in
    let included = c.into_included.ensures in
    (c.loop-number.walk.shown, resolved c.args.query.now c.loop-number.walk c.take_uncounted.new.walk c.into_included.result was.walk none.kept none.all included.sized included.included, was.chain)
