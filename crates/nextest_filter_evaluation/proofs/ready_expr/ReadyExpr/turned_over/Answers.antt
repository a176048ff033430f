use Rattle.nextest_filter_evaluation.specs.Formulas.{both, either, negation}
use Rattle.nextest_filter_evaluation.specs.Ready.{ready_of, turned_over}
use Rattle.nextest_filter_evaluation.proofs.ReducingFacts.{turned_step}
use Rattle.nextest_filter_evaluation.proofs.ready_expr.ReadyExpr.turned_over.Goals as goal

pub loop-self-preserved-in-Not : goal.loop-self-preserved-in-Not
loop-self-preserved-in-Not c =
    let left = c.replace-self in
    turned_step left.result (ready_of c.not_of-built.result) (negation (ready_of c.loop-self.built)) (turned_over c.args.self (ready_of c.args.innermost)) (rw left.ensures.after at c.not_of-built.ensures) (rw (left.ensures.value, c.deref_mut.ensures.value) (rw c.in-Not.is at c.loop-self.invariant))

pub loop-self-preserved-in-Union : goal.loop-self-preserved-in-Union
loop-self-preserved-in-Union c =
    let left = c.replace-self-in-Union in
    turned_step left.result (ready_of c.either_of-built.result) (either (ready_of c.loop-self.built) (ready_of c.in-Union.y.value)) (turned_over c.args.self (ready_of c.args.innermost)) (rw left.ensures.after at c.either_of-built.ensures) (rw (left.ensures.value, c.deref_mut-in-Union.ensures.value) (rw c.in-Union.is at c.loop-self.invariant))

pub loop-self-preserved : goal.loop-self-preserved
loop-self-preserved c =
    let left = c.replace-self-in-Intersection in
    turned_step left.result (ready_of c.both_of-built.result) (both (ready_of c.loop-self.built) (ready_of c.in-Intersection.y.value)) (turned_over c.args.self (ready_of c.args.innermost)) (rw left.ensures.after at c.both_of-built.ensures) (rw (left.ensures.value, c.deref_mut-in-Intersection.ensures.value) (rw c.in-Intersection.is at c.loop-self.invariant))

pub returns-in-Known : goal.returns-in-Known
returns-in-Known c = rw c.in-Known.is at c.loop-self.invariant

pub returns-in-Equal : goal.returns-in-Equal
returns-in-Equal c = rw c.in-Equal.is at c.loop-self.invariant

pub returns-in-Contains : goal.returns-in-Contains
returns-in-Contains c = rw c.in-Contains.is at c.loop-self.invariant

pub returns-in-Glob : goal.returns-in-Glob
returns-in-Glob c = rw c.in-Glob.is at c.loop-self.invariant

pub returns-in-Pattern : goal.returns-in-Pattern
returns-in-Pattern c = rw c.in-Pattern.is at c.loop-self.invariant

pub returns-in-Groups : goal.returns-in-Groups
returns-in-Groups c = rw c.in-Groups.is at c.loop-self.invariant
