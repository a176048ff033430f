use Rattle.std.proofs.Common.{map, ◌≡◌, ◌++◌, take}
use Rattle.std.specs.List.{flat_map}
use Rattle.workspace_record.specs.LinkNames.{link_view}
use Rattle.feature_account_rules.specs.RuleList.{weak_rules}
use Rattle.feature_account_rules.proofs.rule_list.push_weak_entry.Given as goal

abbrev pub invariant-loop-link : goal.invariant-loop-link
invariant-loop-link l = l.rules.items ≡ l.fn.rules.items ++ flat_map (weak_rules l.index l.table l.entry.row.now l.premise l.entry.name.now l.entry.feature.now) (map link_view (take l.link-index l.links))
