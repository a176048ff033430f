-- What semver reads in rows.
use Rattle.std.specs.Prelude.{◌≡◌, List, Ok, map}
use Rattle.semver.specs.Identifiers.{comparator_view, parts_of}
use Rattle.semver.specs.Parse.{req_of, version_parts}
use Rattle.semver.specs.declared.Version.{Version}
use Rattle.semver.specs.declared.VersionReq.{VersionReq}
use Rattle.workspace_record.specs.Records.{Package, Link}
use Rattle.guppy_package_rules.specs.declared.readings.RowReadings.{RowReadings}

-- these are the versions of the packages, each at the place of its package (from the `semver` crate)
abbrev pub AreVersionsOf : List Package → List Version → Type 0
AreVersionsOf packages versions = map (λ p. version_parts p.version) packages ≡ map (λ v. Ok (parts_of v)) versions

-- these are the requirements of the links, each at the place of its link (from the `semver` crate)
abbrev pub AreRequirementsOf : List Link → List VersionReq → Type 0
AreRequirementsOf links requirements = map (λ l. req_of l.requirement) links ≡ map (λ r. Ok (map comparator_view r.comparators.items)) requirements

-- what is read in the rows (from the `semver` crate)
pub record AreReadIn (packages : List Package) (links : List Link) (readings : RowReadings) : Type 0 where
  pub versions : AreVersionsOf packages readings.versions.items
  pub requirements : AreRequirementsOf links readings.requirements.items
