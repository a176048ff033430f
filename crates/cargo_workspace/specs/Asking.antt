-- What the words of a command line ask for.
use Rattle.std.specs.Prelude.{◌≡◌, true, false, List, Some, None, codes, map}
use Rattle.clap.specs.Words.{Row, all_of}
use Rattle.test_select_files.specs.Words.{is_given, values_of}
use Rattle.cargo_files.specs.declared.choosing.FeatureWords.{FeatureWords}
use Rattle.cargo_record.specs.declared.members.RequestedMembers.{RequestedMembers}
use Rattle.cargo_record.specs.declared.members.RequestedMembers.TheVariants.{Default, Workspace, Named}

-- the words ask about these members: those that are named; where none is, with `--workspace` all, and else the default members
abbrev pub AsksAbout : List Row → RequestedMembers → Type 0
AsksAbout words (Named names) = all_of (codes "package") words ≡ Some (map (λ name. name.now) names.now)
AsksAbout words Workspace = (all_of (codes "package") words ≡ None) × (is_given (codes "workspace") words ≡ true)
AsksAbout words Default = (all_of (codes "package") words ≡ None) × (is_given (codes "workspace") words ≡ false)

-- this is what the words ask of features
pub record AsksForFeatures (words : List Row) (asked : FeatureWords) : Type 0 where
  pub features : map (λ text. text.now) asked.features.now ≡ values_of (codes "features") words
  pub no_default : asked.no_default_features ≡ is_given (codes "no-default-features") words
  pub all : asked.all_features ≡ is_given (codes "all-features") words
