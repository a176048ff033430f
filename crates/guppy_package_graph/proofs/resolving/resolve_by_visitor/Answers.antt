use Rattle.std.proofs.Common.{◌≡◌, ◌++◌, ◌∷◌, [], subst, sym}
use Rattle.numbered_graph.specs.Walks.{Shown}
use Rattle.guppy_package_graph.specs.Resolves.{shown_to}
use Rattle.guppy_package_graph.specs.Visits.{Chain}
use Rattle.guppy_package_graph.proofs.ResolveFacts.{SameSteps-trans, resolved, shown_more, shown_then, walk_more}
use Rattle.guppy_package_graph.proofs.resolving.resolve_by_visitor.Goals as goal

pub loop-number-preserved : goal.loop-number-preserved
loop-number-preserved g c =
    let before = goal.PackageLinkVisitor-dyn g c.args.visitor.now in
    let here = goal.PackageLinkVisitor-dyn g c.loop-number.visitor.now in
    let after = goal.PackageLinkVisitor-dyn g (c.loop-number.visitor.now.0, c.ask-accepted.new.visitor) in
    let q = c.args.query.now in
    let was = c.loop-number.invariant in
    let w = c.loop-number.walk in
    let shown : c.answer.new.self.shown ≡ w.shown ++ (c.in-Some.number, c.ask-accepted.result) ∷ [] =
    shown_then q w c.take.new.self c.answer.new.self c.in-Some.number c.ask-accepted.result c.in-Some.ensures.kept c.answer.ensures.answered in
    let R = before.steps c.args.visitor.now.1 in
    let last = after.state c.ask-accepted.new.visitor in
    record {
      walk = walk_more q w c.take.new.self c.answer.new.self c.in-Some.number c.ask-accepted.result was.walk c.in-Some.ensures.kept c.answer.ensures.answered;
      chain = subst (λ (s : Shown). Chain R (before.state c.args.visitor.now.1) (shown_to q s) last) (sym shown)
          (shown_more R q w.shown (before.state c.args.visitor.now.1) (here.state c.loop-number.visitor.now.1) last c.in-Some.number c.ask-accepted.result was.chain
          (was.same.back _ _ _ _ c.ask-accepted.ensures.step));
      same = SameSteps-trans was.same c.ask-accepted.ensures.same;
    }

pub returns-clause-ok : goal.returns-clause-ok
returns-clause-ok g c =
    let was = c.loop-number.invariant in
    let none = c.in_default.ensures in
    let included = c.into_included.ensures in
    (c.loop-number.walk.shown, resolved c.args.query.now c.loop-number.walk c.take.new.self c.into_included.result was.walk none.kept none.all included.sized included.included, was.chain)
