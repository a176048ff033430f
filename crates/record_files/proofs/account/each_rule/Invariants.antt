use Rattle.std.proofs.Common.{◌≡◌}
use Rattle.record_files.specs.Trees.{seen_items}
use Rattle.record_files.specs.Values.{each}
use Rattle.record_files.specs.Accounts.{rule_of}
use Rattle.record_files.proofs.Lists.{with_front, from_value}
use Rattle.record_files.proofs.account.each_rule.Given as goal

abbrev pub invariant-loop-value : goal.invariant-loop-value
invariant-loop-value l =
    with_front l.rules.items (from_value (rule_of l.key) l.values l.value-index) ≡ each (rule_of l.key) (seen_items l.values)
