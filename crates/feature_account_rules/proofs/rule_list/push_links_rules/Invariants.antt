use Rattle.std.proofs.Common.{◌≡◌, ◌++◌, take}
use Rattle.std.specs.List.{flat_map}
use Rattle.feature_account_rules.specs.RuleList.{link_rules}
use Rattle.feature_account_rules.proofs.rule_list.push_links_rules.Given as goal

abbrev pub invariant-loop-link : goal.invariant-loop-link
invariant-loop-link l = l.rules.items ≡ l.fn.rules.items ++ flat_map (link_rules l.index l.table) (take l.link-index l.links)
