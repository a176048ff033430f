use Rattle.std.proofs.Common.{◌≡◌, false, not, take}
use Rattle.std.specs.List.{list_any}
use Rattle.test_select_rules.specs.RecordRules.{has_required_features}
use Rattle.test_select_rules.proofs.rules_on_features.first_lacking_package.Given as goal

abbrev pub invariant-loop-place : goal.invariant-loop-place
invariant-loop-place l = list_any (λ p. not (has_required_features p)) (take l.place l.packages) ≡ false
