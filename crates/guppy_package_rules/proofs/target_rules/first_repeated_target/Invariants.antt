use Rattle.std.proofs.Common.{◌≡◌, false, not, take}
use Rattle.std.specs.List.{list_any}
use Rattle.guppy_package_rules.specs.Rules.{has_distinct_targets}
use Rattle.guppy_package_rules.proofs.target_rules.first_repeated_target.Given as goal

abbrev pub invariant-loop-place : goal.invariant-loop-place
invariant-loop-place l = list_any (λ p. not (has_distinct_targets p)) (take l.place l.packages) ≡ false
