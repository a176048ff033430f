use Rattle.std.proofs.Common.{◌≡◌, ◌++◌, take}
use Rattle.feature_account_rules.proofs.own_features.push_extras.Given as goal

abbrev pub invariant-loop-extra : goal.invariant-loop-extra
invariant-loop-extra l = l.features.items ≡ l.fn.features.items ++ take l.extra-index l.extras
