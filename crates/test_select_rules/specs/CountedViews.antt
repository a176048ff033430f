-- Features that are read at the price of a look.
use Rattle.std.specs.Prelude.{List}
use Rattle.workspace_record.specs.Features.{FeatureValue}
use Rattle.test_select_rules.specs.declared.counted_features.CountedFeatures.{CountedFeatures}

-- the features of the list
abbrev pub counted_list : CountedFeatures → List FeatureValue
counted_list c = c.features.now
