-- Features that a set of lent features finds.
use Rattle.std.specs.Borrow.{Bor}
use Rattle.indexmap.specs.IndexSet.{IndexSet, contains_by}
use Rattle.workspace_record.specs.Features.{FeatureValue, feature_eq}
use Rattle.feature_account_rules.specs.Closed.{FeatureSet}

-- the features that the set finds
abbrev pub found_set : {S : Type 0} → IndexSet (Bor FeatureValue) S → FeatureSet
found_set found f = contains_by (λ k. feature_eq f k.now) found
