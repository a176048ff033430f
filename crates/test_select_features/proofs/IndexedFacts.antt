-- Whether a feature is the base of a package.
use Rattle.std.proofs.Common.{◌≡◌, Bool, true, false, ◌&&◌, refl}
use Rattle.std.specs.Str.{bytes_eq}
use Rattle.workspace_record.specs.Features.{feature_eq}
use Rattle.workspace_record.specs.Records.{Text}
use Rattle.feature_account_rules.specs.RuleList.{base_of}

both_true : (b : Bool) → b ≡ (b && true)
both_true true = refl
both_true false = refl

-- bases are the same where their packages are
pub bases_same : (a b : Text) → bytes_eq a b ≡ feature_eq (base_of a) (base_of b)
bases_same a b = both_true (bytes_eq a b)
