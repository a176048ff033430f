use Rattle.std.proofs.Common.{◌≡◌, ◌++◌, map, take, string_bytes}
use Rattle.feature_account_rules.specs.RuleList.{dep_of}
use Rattle.feature_account_rules.proofs.own_features.push_dependencies.Given as goal

abbrev pub invariant-loop-name : goal.invariant-loop-name
invariant-loop-name l = l.features.items ≡ l.fn.features.items ++ map (dep_of l.id) (map string_bytes (take l.name-index l.names))
