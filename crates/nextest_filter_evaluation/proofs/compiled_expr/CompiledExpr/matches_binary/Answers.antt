use Rattle.nextest_filter_evaluation.specs.Meaning.{DefaultGives}
use Rattle.nextest_filter_evaluation.specs.Kleene.{may_be}
use Rattle.nextest_filter_evaluation.specs.Compiled.{compiled_of}
use Rattle.nextest_binaries.specs.Queries.{binary_of}
use Rattle.nextest_filter_evaluation.proofs.KleeneFacts.{may_be_given}
use Rattle.nextest_filter_evaluation.proofs.MeaningFacts.{gives_with_default, knows_alike, known_exactly}
use Rattle.nextest_filter_evaluation.proofs.compiled_expr.CompiledExpr.matches_binary.Goals as goal

pub returns-clause-some : goal.returns-clause-some
returns-clause-some c =
    let b = binary_of c.args.query.now in
    let d = DefaultGives (compiled_of c.args.cx.now.default_filter.now) b in
    knows_alike _ _ _ (gives_with_default b (may_be c.in_ok-default.default) d (compiled_of c.args.self.now) (λ named. may_be_given _ d (c.in_ok-default.ensures.known named))) c.known_of.ensures.known

pub returns-clause-exact : goal.returns-clause-exact
returns-clause-exact c = known_exactly _ _ (returns-clause-some c)
