-- What the choice is that words of `--features` mean for the record of a file, and why there is none.
use Rattle.std.specs.Prelude.{ℕ, List, map, Ok}
use Rattle.workspace_record.specs.Choices.{Choice}
use Rattle.workspace_record.specs.Records.{Text, Workspace}
use Rattle.record_files.specs.Choices.{choice_file}
use Rattle.record_files.specs.Files.{Reads}
use Rattle.record_files.specs.Records.{record_file}
use Rattle.record_writing.specs.Files.{as_named}
use Rattle.cargo_files.specs.Meaning.{AllMean, RefusesFirst, meant_by, standard_of}
use Rattle.cargo_files.specs.Parting.{AreWordsOf}
use Rattle.cargo_files.specs.declared.choosing.FeatureWords.{FeatureWords}
use Rattle.cargo_files.specs.declared.choice_fault.ChoiceFault.{ChoiceFault}

-- the words of the lists that are asked for
abbrev pub AreAsked : FeatureWords → List Text → Type 0
AreAsked asked words = AreWordsOf (map (λ t. t.now) asked.features.now) words

-- the choice that the words and the flags mean
abbrev pub choice_meant : Workspace → FeatureWords → List Text → Choice
choice_meant w asked words =
    record { standard = standard_of asked.all_features asked.no_default_features; extras = meant_by w words }

-- each word means a feature of the record, and the text is the file of the choice that they mean
pub record IsChoiceOf (w : Workspace) (asked : FeatureWords) (text : Text) : Type 0 where
  pub words : List Text
  pub parted : AreAsked asked words
  pub known : AllMean w words
  pub reads : Reads choice_file text (Ok (as_named (choice_meant w asked words)))

-- the fault is that of the first word that means no feature of the record
pub record HasNoChoice (w : Workspace) (asked : FeatureWords) (fault : ChoiceFault) : Type 0 where
  pub words : List Text
  pub parted : AreAsked asked words
  pub first : RefusesFirst w words fault

-- the same for the record in a file
abbrev pub IsChoiceFile : List ℕ → FeatureWords → Text → Type 0
IsChoiceFile file asked text = (w : Workspace) × Reads record_file file (Ok w) × IsChoiceOf w asked text
