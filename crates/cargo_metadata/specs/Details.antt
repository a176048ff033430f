-- The details of a package, in three parts.
use Rattle.std.specs.Prelude.{List, Option, None, Result, Ok}
use Rattle.serde_json.specs.Data.{Data}
use Rattle.workspace_record.specs.Records.{Text, PackageDetails}
use Rattle.cargo_metadata.specs.Faults.{Fault}
use Rattle.cargo_metadata.specs.declared.key.Key.TheVariants as key
use Rattle.cargo_metadata.specs.Outcomes.{◌>>=◌}
use Rattle.cargo_metadata.specs.Folders.{own_folder}
use Rattle.cargo_metadata.specs.Values.{optional_text_at, text_at, texts_at, optional_texts_at}

-- where a package is from, who wrote it and what it is about
pub record Origin : Type 0 where
  pub source : Option Text
  pub path : Option Text
  pub manifest_path : Text
  pub edition : Text
  pub authors : List Text
  pub categories : List Text
  pub keywords : List Text

-- what a package says of itself
pub record Description : Type 0 where
  pub description : Option Text
  pub license : Option Text
  pub license_file : Option Text
  pub readme : Option Text
  pub repository : Option Text
  pub homepage : Option Text
  pub documentation : Option Text

-- how a package is built and published
pub record Settings : Type 0 where
  pub links : Option Text
  pub default_run : Option Text
  pub rust_version : Option Text
  pub publish : Option (List Text)

-- the keys of the first part, in their order
unfoldable pub origin_of : Data → Result Origin Fault
origin_of d = do
  source ← optional_text_at key.Source d
  manifest_path ← text_at key.ManifestPath d
  edition ← text_at key.Edition d
  authors ← texts_at key.Authors d
  categories ← texts_at key.Categories d
  keywords ← texts_at key.Keywords d
  Ok (record { source = source; path = own_folder source manifest_path; manifest_path = manifest_path; edition = edition; authors = authors; categories = categories; keywords = keywords })

-- the keys of the second part
unfoldable pub description_of : Data → Result Description Fault
description_of d = do
  description ← optional_text_at key.Description d
  license ← optional_text_at key.License d
  license_file ← optional_text_at key.LicenseFile d
  readme ← optional_text_at key.Readme d
  repository ← optional_text_at key.Repository d
  homepage ← optional_text_at key.Homepage d
  documentation ← optional_text_at key.Documentation d
  Ok (record { description = description; license = license; license_file = license_file; readme = readme; repository = repository; homepage = homepage; documentation = documentation })

-- the keys of the third part
unfoldable pub settings_of : Data → Result Settings Fault
settings_of d = do
  links ← optional_text_at key.Links d
  default_run ← optional_text_at key.DefaultRun d
  rust_version ← optional_text_at key.RustVersion d
  publish ← optional_texts_at key.Publish d
  Ok (record { links = links; default_run = default_run; rust_version = rust_version; publish = publish })

-- the three parts in one; what a manifest says to other tools is left out
abbrev pub joined : Origin → Description → Settings → PackageDetails
joined o d s =
    record { source = o.source; path = o.path; manifest_path = o.manifest_path; edition = o.edition; authors = o.authors; categories = o.categories; keywords = o.keywords; description = d.description; license = d.license; license_file = d.license_file; readme = d.readme; repository = d.repository; homepage = d.homepage; documentation = d.documentation; links = s.links; default_run = s.default_run; rust_version = s.rust_version; publish = s.publish; metadata = None }

-- the details of a package, in the order of its keys
abbrev pub details_of : Data → Result PackageDetails Fault
details_of d = do
  origin ← origin_of d
  description ← description_of d
  settings ← settings_of d
  Ok (joined origin description settings)
