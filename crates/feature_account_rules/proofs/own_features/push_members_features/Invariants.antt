use Rattle.std.proofs.Common.{◌≡◌, ◌++◌, take}
use Rattle.std.specs.List.{flat_map}
use Rattle.feature_account_rules.specs.RuleList.{member_features}
use Rattle.feature_account_rules.proofs.own_features.push_members_features.Given as goal

abbrev pub invariant-loop-owner : goal.invariant-loop-owner
invariant-loop-owner l = l.features.items ≡ l.fn.features.items ++ flat_map (member_features l.index l.standard) (take l.owner-index l.packages)
