use Rattle.std.proofs.Common.{◌≡◌, flat_map, string_bytes, take}
use Rattle.feature_account_making.specs.FeatureLines.{feature_line}
use Rattle.feature_account_making.proofs.feature_lines.feature_lines.Given as goal

abbrev pub invariant-loop-feature : goal.invariant-loop-feature
invariant-loop-feature l = string_bytes l.text ≡ flat_map feature_line (take l.feature-index l.features)
