use Rattle.std.proofs.Common.{take, drop, reverse}
use Rattle.feature_account_rules.specs.Found.{found_set}
use Rattle.feature_account_making.proofs.Selecting.{Selects}
use Rattle.feature_account_making.proofs.explaining.entries_by.Given as goal

abbrev pub invariant-loop-place : goal.invariant-loop-place
invariant-loop-place l = Selects l.rules l.fn.goal (take l.place l.account) (drop l.place l.account) (reverse l.entries.items) (found_set l.needed)
