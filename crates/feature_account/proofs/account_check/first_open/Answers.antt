use Rattle.std.proofs.Common.{subst, sym, take_all, ◌∙◌}
use Rattle.feature_account_rules.specs.Closed.{IsClosed}
use Rattle.feature_account_rules.specs.Found.{found_set}
use Rattle.feature_account.proofs.AccountFacts.{closed_more, first_open_at}
use Rattle.feature_account.proofs.account_check.first_open.Goals as goal

pub returns-then-is_open-clause-first : goal.returns-then-is_open-clause-first
returns-then-is_open-clause-first c =
    first_open_at (found_set c.args.concluded.now) c.args.rules.now c.loop-number.number c.index-rules-number.result c.loop-number-test.true c.index-rules-number.is (sym c.is_open.ensures.answer ∙ c.if-is_open.true) c.loop-number.invariant

pub loop-number-preserved : goal.loop-number-preserved
loop-number-preserved c =
    closed_more (found_set c.args.concluded.now) c.args.rules.now c.loop-number.number c.index-rules-number.result c.loop-number-test.true c.index-rules-number.is (sym c.is_open.ensures.answer ∙ c.if-is_open.false) c.loop-number.invariant

pub returns-clause-none : goal.returns-clause-none
returns-clause-none c =
    subst (λ rules. IsClosed rules (found_set c.args.concluded.now)) (take_all c.loop-number.number c.args.rules.now c.loop-number-test.false) c.loop-number.invariant
