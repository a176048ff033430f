-- The first link between two packages.
use Rattle.std.specs.Prelude.{◌≡◌, ℕ, Option, Some, None, Result, Ok, Err, length}
use Rattle.guppy_package_parts.specs.declared.dependency_direction.DependencyDirection.{DependencyDirection}
use Rattle.guppy_package_parts.specs.declared.dependency_direction.DependencyDirection.TheVariants.{Forward, Reverse}
use Rattle.guppy_package_parts.specs.declared.error.Error.{Error}
use Rattle.guppy_package_parts.specs.declared.error.Error.TheVariants.{UnknownPackageId}
use Rattle.workspace_record.specs.Records.{Text}
use Rattle.guppy_package_table.specs.Tables.{IsClear, IsFirstBetween, TableValue, numbered_links}
use Rattle.guppy_package_graph.specs.Finding.{IsAt, IsUnknown}
use Rattle.guppy_package_graph.specs.Views.{link_graph_of, number_of}
use Rattle.guppy_package_graph.specs.declared.package_link.PackageLink.{PackageLink}

-- the first link from the one place to the other, or that there is none
abbrev pub SaysFirst : TableValue → ℕ → ℕ → Option PackageLink → Type 0
SaysFirst g from to (Some link) = IsFirstBetween from to (numbered_links g) (number_of link) × (link_graph_of link ≡ g)
SaysFirst g from to None = IsClear from to (numbered_links g) (length g.links)

-- the same in a direction: in reverse the link leads from the far end to the near one
abbrev pub SaysLink : TableValue → ℕ → ℕ → DependencyDirection → Option PackageLink → Type 0
SaysLink g near far Forward found = SaysFirst g near far found
SaysLink g near far Reverse found = SaysFirst g far near found

-- the link between the package at the near end and the one with the id, or that none has the id
abbrev pub AnswersLink : TableValue → ℕ → DependencyDirection → Text → Result (Option PackageLink) Error → Type 0
AnswersLink g near direction id (Ok found) = (far : ℕ) × IsAt g id far × SaysLink g near far direction found
AnswersLink g near direction id (Err error) = IsUnknown g id × (error ≡ UnknownPackageId)
