use Rattle.std.proofs.Common.{◌≡◌, ◌++◌, [], rules, string_bytes}
use Rattle.feature_account_making.specs.FeatureLines.{feature_line}
use Rattle.list_facts.proofs.Lists.{flat_more}
use Rattle.feature_account_making.proofs.feature_lines.feature_lines.Goals as goal

pub loop-feature-preserved : goal.loop-feature-preserved
loop-feature-preserved c =
    let more : string_bytes c.push_str.new.self ≡ string_bytes c.loop-feature.text ++ feature_line c.feature-item.result = search rules in
    flat_more feature_line [] (string_bytes c.loop-feature.text) (string_bytes c.push_str.new.self) c.feature-item.result c.args.features.now c.loop-feature.feature-index _ c.loop-feature-test.true c.feature-item.is more c.loop-feature.invariant
