-- Features and their order.
use Rattle.std.proofs.lemmas.Map.Lookups.{CmpEqualImpliesEq}
use Rattle.workspace_record.specs.Features.{feature_cmp, feature_ties, features_decide}

-- features that the order does not tell apart are the same
pub feature_exact : CmpEqualImpliesEq feature_cmp
feature_exact a b e = (features_decide a b).0 (rw (feature_ties a b, e))
