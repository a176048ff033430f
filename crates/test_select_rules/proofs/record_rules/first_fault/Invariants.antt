use Rattle.std.proofs.Common.{◌≡◌, drop}
use Rattle.guppy_package_rules.specs.Rules.{first_fault}
use Rattle.test_select_rules.specs.RecordRules.{further_broken}
use Rattle.test_select_rules.proofs.record_rules.first_fault.Given as goal

abbrev pub invariant-loop-rule : goal.invariant-loop-rule
invariant-loop-rule l = first_fault (further_broken l.index) l.rules ≡ first_fault (further_broken l.index) (drop l.rule-index l.rules)
