use Rattle.std.proofs.Common.{map, ◌≡◌, ◌++◌, take}
use Rattle.std.specs.List.{flat_map}
use Rattle.workspace_record.specs.LinkNames.{link_view}
use Rattle.feature_account_rules.specs.RuleList.{strong_targets}
use Rattle.feature_account_rules.proofs.rule_list.push_links_targets.Given as goal

abbrev pub invariant-loop-link : goal.invariant-loop-link
invariant-loop-link l = l.features.items ≡ l.fn.features.items ++ flat_map (strong_targets l.index l.table l.entry.row.now l.entry.name.now l.entry.feature.now) (map link_view (take l.link-index l.links))
