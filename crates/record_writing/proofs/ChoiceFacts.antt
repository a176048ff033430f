-- Choices that were written are read with the features that their words mean.
use Rattle.std.proofs.Common.{◌≡◌, refl, Some, Ok}
use Rattle.workspace_record.specs.Choices.{Choice}
use Rattle.workspace_record.specs.Features.{FeatureValue}
use Rattle.workspace_record.specs.declared.kinds.Standard.{Standard}
use Rattle.workspace_record.specs.declared.kinds.Standard.TheVariants as standard
use Rattle.record_files.specs.Choices.{choice_file, choice_of, extra_of, standard_named}
use Rattle.record_writing.specs.Choices.{choice_data, extra_data, standard_name}
use Rattle.record_writing.specs.Files.{as_named, feature_as_named}
use Rattle.record_writing.proofs.Found.{objects_each, each_read}

standard_read : (s : Standard) → standard_named (standard_name s) ≡ Some s
standard_read standard.None = refl
standard_read standard.Default = refl
standard_read standard.All = refl

extra_read : (f : FeatureValue) → extra_of (extra_data f) ≡ Ok (feature_as_named f)
unfolding extra_of
extra_read f = refl

pub choice_read : (c : Choice) → choice_file (choice_data c) ≡ Ok (as_named c)
unfolding choice_of
choice_read c = rw (
  standard_read c.standard,
  objects_each extra_data (λ x. refl) c.extras,
  each_read extra_of extra_data feature_as_named extra_read c.extras,
)
