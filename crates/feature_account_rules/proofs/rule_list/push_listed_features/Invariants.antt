use Rattle.std.proofs.Common.{◌≡◌, ◌++◌, map, filter, take, string_bytes}
use Rattle.feature_account_rules.specs.RuleList.{named_of, has_feature}
use Rattle.feature_account_rules.proofs.rule_list.push_listed_features.Given as goal

abbrev pub invariant-loop-name : goal.invariant-loop-name
invariant-loop-name l = l.features.items ≡ l.fn.features.items ++ map (named_of l.id) (filter (has_feature l.target) (map string_bytes (take l.name-index l.names)))
