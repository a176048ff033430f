-- What an entry of a feature's list says, by what the text is made of.
use Rattle.std.specs.Prelude.{◌≡◌, ◌≢◌, ◌++◌, codes, Contains}
use Rattle.workspace_record.specs.Records.{Text}
use Rattle.workspace_record.specs.Entries.{EntryValue, OwnFeature, Dependency, Strong, Weak}

-- the text does not begin with `dep:`
abbrev pub HasNoPrefix : Text → Type 0
HasNoPrefix entry = (rest : Text) → entry ≢ codes "dep:" ++ rest

-- the text holds no slash
abbrev pub HasNoSlash : Text → Type 0
HasNoSlash name = Contains name 47 → ⊥

-- what `name`, `dep:name`, `name/feature` and `name?/feature` say (from Cargo's reference, "Features")
pub data IsEntry (entry : Text) : EntryValue → Type 0 where
  -- `dep:name`
  dependency : {name : Text} → entry ≡ codes "dep:" ++ name → IsEntry entry (Dependency name)
  -- `name?/feature`, cut at the first slash
  weak : {name feature : Text} → HasNoPrefix entry → entry ≡ (name ++ codes "?") ++ (codes "/" ++ feature) → HasNoSlash name → IsEntry entry (Weak name feature)
  -- `name/feature`, cut at the first slash, where the name does not end in a question mark
  strong : {name feature : Text} → HasNoPrefix entry → entry ≡ name ++ (codes "/" ++ feature) → HasNoSlash name → ((front : Text) → name ≢ front ++ codes "?") → IsEntry entry (Strong name feature)
  -- any other text is a feature's name
  own_feature : HasNoPrefix entry → HasNoSlash entry → IsEntry entry (OwnFeature entry)
