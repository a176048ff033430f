use Rattle.std.proofs.Common.{◌≡◌, ◌++◌, map, take}
use Rattle.feature_account_rules.specs.RuleList.{named_of}
use Rattle.feature_account_rules.proofs.own_features.push_own_features.Given as goal

abbrev pub invariant-loop-feature : goal.invariant-loop-feature
invariant-loop-feature l = l.features.items ≡ l.fn.features.items ++ map (λ f. named_of l.row.id f.name) (take l.feature-index l.row.features)
