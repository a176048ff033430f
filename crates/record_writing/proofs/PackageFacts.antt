-- Packages that were written are read as they are, without their metadata.
use Rattle.std.proofs.Common.{◌≡◌, refl, Ok}
use Rattle.workspace_record.specs.Records.{Package}
use Rattle.record_files.specs.declared.key.Key.TheVariants as key
use Rattle.record_files.specs.Details.{origin_of, description_of, settings_of}
use Rattle.record_files.specs.Packages.{feature_of, target_of, contents_of, package_of}
use Rattle.record_writing.specs.Files.{plain_package}
use Rattle.record_writing.specs.Rows.{feature_data, target_data, package_data}
use Rattle.record_writing.proofs.Found.{each_text_of, text_or_none, texts_or_none, objects_each, each_same}
use Rattle.record_writing.proofs.RowFacts.{feature_read, target_read}

pub package_read : (p : Package) → package_of (package_data p) ≡ Ok (plain_package p)
unfolding package_of contents_of origin_of description_of settings_of
package_read p = rw (
  each_text_of p.optional,
  text_or_none key.Source p.info.source,
  text_or_none key.Path p.info.path,
  each_text_of p.info.authors,
  each_text_of p.info.categories,
  each_text_of p.info.keywords,
  text_or_none key.Description p.info.description,
  text_or_none key.License p.info.license,
  text_or_none key.LicenseFile p.info.license_file,
  text_or_none key.Readme p.info.readme,
  text_or_none key.Repository p.info.repository,
  text_or_none key.Homepage p.info.homepage,
  text_or_none key.Documentation p.info.documentation,
  text_or_none key.Links p.info.links,
  text_or_none key.DefaultRun p.info.default_run,
  text_or_none key.RustVersion p.info.rust_version,
  texts_or_none key.Publish p.info.publish,
  objects_each feature_data (λ x. refl) p.features,
  objects_each target_data (λ x. refl) p.targets,
  each_same feature_of feature_data feature_read p.features,
  each_same target_of target_data target_read p.targets,
)
