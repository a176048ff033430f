use Rattle.feature_account_rules.specs.Found.{found_set}
use Rattle.feature_account.proofs.AccountFacts.{SoFar}
use Rattle.feature_account.proofs.soundness.first_fault.Given as goal

abbrev pub invariant-loop-place : goal.invariant-loop-place
invariant-loop-place l = SoFar l.rules l.entries l.place (found_set l.concluded)
