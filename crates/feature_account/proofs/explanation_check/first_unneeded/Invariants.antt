use Rattle.std.proofs.Common.{drop}
use Rattle.feature_account_rules.specs.Found.{found_set}
use Rattle.feature_account.proofs.ExplanationFacts.{UsedFrom}
use Rattle.feature_account.proofs.explanation_check.first_unneeded.Given as goal

abbrev pub invariant-loop-place : goal.invariant-loop-place
invariant-loop-place l = UsedFrom l.rules (drop l.place l.entries) l.place (found_set l.needed) l.unused
