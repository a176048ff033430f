use Rattle.std.proofs.Common.{◌≡◌, take}
use Rattle.feature_account.specs.Accounts.{conclusions}
use Rattle.feature_account_making.proofs.concluding.concluded.Given as goal

abbrev pub invariant-loop-number : goal.invariant-loop-number
invariant-loop-number l = l.features.items ≡ conclusions l.rules (take l.number-index l.entries)
