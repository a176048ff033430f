use Rattle.std.proofs.Common.{take}
use Rattle.feature_account_rules.specs.Closed.{IsClosed}
use Rattle.feature_account_rules.specs.Found.{found_set}
use Rattle.feature_account.proofs.account_check.first_open.Given as goal

abbrev pub invariant-loop-number : goal.invariant-loop-number
invariant-loop-number l = IsClosed (take l.number l.rules) (found_set l.concluded)
