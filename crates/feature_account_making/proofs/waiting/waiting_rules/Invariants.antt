use Rattle.feature_account_making.proofs.WaitingFacts.{WaitsBelow}
use Rattle.feature_account_making.proofs.waiting.waiting_rules.Given as goal

abbrev pub invariant-loop-number : goal.invariant-loop-number
invariant-loop-number l = WaitsBelow l.rules l.number l.waiting
