use Rattle.std.proofs.Common.{◌≡◌, take}
use Rattle.feature_account_rules.proofs.feature_ref.copies_of.Given as goal

abbrev pub invariant-loop-feature : goal.invariant-loop-feature
invariant-loop-feature l = l.copies.items ≡ take l.feature-index l.features
