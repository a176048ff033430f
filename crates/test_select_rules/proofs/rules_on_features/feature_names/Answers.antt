use Rattle.std.proofs.Common.{Bor, rules}
use Rattle.std.proofs.lemmas.Iterator.{YieldsList-from_map_by, YieldsList-from_slice}
use Rattle.std.proofs.lemmas.Iterator.Consumers.{map_from_collect}
use Rattle.workspace_record.specs.Records.{FeatureEntry, Text}
use Rattle.test_select_rules.proofs.rules_on_features.feature_names.Goals as goal

pub returns : goal.returns
returns c =
    map_from_collect _ c.collect.ensures.ran (YieldsList-from_map_by _ (λ (t : Bor Text). t.now) (λ (f : FeatureEntry). f.name) (YieldsList-from_slice c.args.features.now cc) c.map.ensures.closure (λ x r q k. search rules))
