use Rattle.std.proofs.Common.{take}
use Rattle.feature_account_making.specs.Waiting.{IsWith}
use Rattle.feature_account_making.proofs.rule_queue.RuleQueue.insert_each.Given as goal

abbrev pub invariant-loop-number : goal.invariant-loop-number
invariant-loop-number l = IsWith l.fn.self (take l.number-index l.numbers) l.self
