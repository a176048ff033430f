-- Which features of a record the words of `--features` mean, and which standard features the flags.
use Rattle.std.specs.Prelude.{◌≡◌, Bool, ◌&&◌, List, [], ◌∷◌, ◌++◌, flat_map, find, bytes_eq, string_bytes, Contains, Option, None, if◌then◌else◌}
use Rattle.std.specs.Option.{option_map_or}
use Rattle.workspace_record.specs.Features.{Named, FeatureValue}
use Rattle.workspace_record.specs.Records.{Text, Package, Workspace}
use Rattle.workspace_record.specs.declared.kinds.Standard.{Standard}
use Rattle.workspace_record.specs.declared.kinds.Standard.TheVariants as standard
use Rattle.workspace_record.specs.Packages.{first_of_each, has_feature, is_member}
use Rattle.cargo_files.specs.Words.{WordValue, OfEach, OfMember, word_value}
use Rattle.cargo_files.specs.declared.choice_fault.ChoiceFault.{ChoiceFault}
use Rattle.cargo_files.specs.declared.choice_fault.ChoiceFault.TheVariants.{NoFeature, NoMember, Memory}

-- the feature of the package, if it has it
abbrev pub own_feature : Text → Package → List FeatureValue
own_feature name p = if has_feature p name then record { package_id = p.id; label = Named name } ∷ [] else []

-- the feature of the package, if it is a member and has it
abbrev pub member_feature : Workspace → Text → Package → List FeatureValue
member_feature w name p = if is_member w p.id then own_feature name p else []

-- the first member of the name
abbrev pub member_named : Workspace → Text → Option Package
member_named w owner = find (λ p. is_member w p.id && bytes_eq p.name owner) (first_of_each w.packages)

-- the features that a word means, in the order of the packages (from Cargo's reference, "Features")
abbrev pub meant : Workspace → WordValue → List FeatureValue
meant w (OfEach name) = flat_map (member_feature w name) (first_of_each w.packages)
meant w (OfMember owner name) = option_map_or (own_feature name) (member_named w owner) []

-- the features that the words mean, word by word (from Cargo's reference, "Features")
abbrev pub meant_by : Workspace → List Text → List FeatureValue
meant_by w words = flat_map (λ word. meant w (word_value word)) words

-- each word means a feature (from Cargo's reference, "Features")
abbrev pub AllMean : Workspace → List Text → Type 0
AllMean w words = (word : Text) → Contains words word → meant w (word_value word) ≡ [] → ⊥

-- the word is `PACKAGE/NAME`, and no member has that name
abbrev pub NamesNoMember : Workspace → WordValue → Type 0
NamesNoMember w (OfEach name) = ⊥
NamesNoMember w (OfMember owner name) = member_named w owner ≡ None

-- the fault says of the word that its member is missing, exactly if it is, and else that the feature is; or memory ran out
abbrev pub Tells : Workspace → Text → ChoiceFault → Type 0
Tells w word (NoFeature named near) = (string_bytes named ≡ word) × (NamesNoMember w (word_value word) → ⊥)
Tells w word (NoMember named near) = (string_bytes named ≡ word) × NamesNoMember w (word_value word)
Tells w word Memory = Unit {0}

-- the word means no feature
abbrev pub MeansNone : Workspace → Text → Type 0
MeansNone w word = meant w (word_value word) ≡ []

-- the fault is that of the word, which means no feature; or memory ran out
abbrev pub Refuses : Workspace → Text → ChoiceFault → Type 0
Refuses w word (NoFeature named near) = MeansNone w word × Tells w word (NoFeature named near)
Refuses w word (NoMember named near) = MeansNone w word × Tells w word (NoMember named near)
Refuses w word Memory = Unit {0}

-- the word is the first of the words that means no feature
pub record IsFirstNone (w : Workspace) (words : List Text) (word : Text) : Type 0 where
  pub before : List Text
  pub after : List Text
  pub parted : words ≡ before ++ word ∷ after
  pub mean : AllMean w before
  pub none : MeansNone w word

-- the fault is that of the first word that means no feature; or memory ran out (from Cargo's reference, "Features")
abbrev pub RefusesFirst : Workspace → List Text → ChoiceFault → Type 0
RefusesFirst w words (NoFeature named near) = IsFirstNone w words (string_bytes named) × (NamesNoMember w (word_value (string_bytes named)) → ⊥)
RefusesFirst w words (NoMember named near) = IsFirstNone w words (string_bytes named) × NamesNoMember w (word_value (string_bytes named))
RefusesFirst w words Memory = Unit {0}

-- all features, if they are asked for; else none or the default ones (from Cargo's reference, "Features")
abbrev pub standard_of : Bool → Bool → Standard
standard_of all none = if all then standard.All else (if none then standard.None else standard.Default)
