-- What the files that are written are read as.
use Rattle.std.specs.Prelude.{◌≡◌, List, Option, None, Ok, bytes_eq, map, reverse}
use Rattle.std.specs.List.Sorted.{IsStrictlySortedBy}
use Rattle.std.specs.Map.{lookup}
use Rattle.list_facts.specs.Ascending.{text_cmp}
use Rattle.workspace_record.specs.Tables.{answer}
use Rattle.workspace_record.specs.declared.choice.PlatformTable.{PlatformTable}
use Rattle.workspace_record.specs.Choices.{Choice}
use Rattle.workspace_record.specs.Features.{FeatureValue}
use Rattle.workspace_record.specs.Records.{Package, Workspace, Text, WorkspaceDetails}
use Rattle.record_files.specs.Choices.{label_of}
use Rattle.record_files.specs.Files.{Reads}
use Rattle.record_files.specs.Listings.{listings_file}
use Rattle.record_files.specs.Tables.{Table, table_file}
use Rattle.record_writing.specs.Choices.{label_text}

-- the package without its metadata
abbrev pub plain_package : Package → Package
plain_package p = record p { info = record p.info { metadata = None } }

-- the workspace without its metadata
abbrev pub plain_workspace : WorkspaceDetails → WorkspaceDetails
plain_workspace w = record w { metadata = None }

-- the record without metadata
abbrev pub without_metadata : Workspace → Workspace
without_metadata w = record w { packages = map plain_package w.packages; workspace = plain_workspace w.workspace }

-- the feature that its word means
abbrev pub feature_as_named : FeatureValue → FeatureValue
feature_as_named f = record { package_id = f.package_id; label = label_of (label_text f.label) }

-- the choice with the features that their words mean
abbrev pub as_named : Choice → Choice
as_named c = record { standard = c.standard; extras = map feature_as_named c.extras }

-- what stands under a name among entries, of those of one name the first
abbrev pub found : {A : Type 0} → Text → List (Text × A) → Option A
found name es = lookup (bytes_eq name) es

-- what stands under a name among entries, of those of one name the last
abbrev pub found_last : {A : Type 0} → Text → List (Text × A) → Option A
found_last name es = found name (reverse es)

-- the names of the entries ascend by their bytes, and so each stands once
abbrev pub AscendByName : {A : Type 0} → List (Text × A) → Type 0
AscendByName es = IsStrictlySortedBy text_cmp (map (λ e. e.0) es)

-- the text reads as a table that answers each spec as this one does
pub record ReadsAsTable (given : PlatformTable) (text : Text) : Type 0 where
  pub table : Table
  pub reads : Reads table_file text (Ok table)
  pub ascend : AscendByName table.answers
  pub answers : (spec : Text) → found spec table.answers ≡ answer given spec
  pub unknown_counts : table.unknown_counts ≡ given.unknown_counts

-- the text reads as the tests of just these binaries, of listings of one binary the last
pub record ReadAsListings (given : List (Text × List Text)) (text : Text) : Type 0 where
  pub listings : List (Text × List Text)
  pub reads : Reads listings_file text (Ok listings)
  pub ascend : AscendByName listings
  pub tests : (id : Text) → found id listings ≡ found_last id given
