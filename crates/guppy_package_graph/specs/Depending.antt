-- Whether one package depends on another.
use Rattle.std.specs.Prelude.{◌≡◌, ◌↔◌, ◌⊎◌, ℕ, ◌<◌, Bool, Result, Ok, Err, IsTrue, length}
use Rattle.numbered_graph.specs.Paths.{Reaches, any_link}
use Rattle.guppy_package_parts.specs.declared.error.Error.{Error}
use Rattle.guppy_package_parts.specs.declared.error.Error.TheVariants.{Memory, UnknownPackageId}
use Rattle.workspace_record.specs.Records.{Text}
use Rattle.guppy_package_table.specs.Tables.{IsBetween, TableValue, numbered_links}
use Rattle.guppy_package_graph.specs.Finding.{IsAt, IsUnknown}

-- the places of both packages, or that one of them is unknown
abbrev pub FindsPair : TableValue → Text → Text → Result (ℕ × ℕ) Error → Type 0
FindsPair g a b (Ok places) = IsAt g a places.0 × IsAt g b places.1 × (places.0 < length g.packages) × (places.1 < length g.packages)
FindsPair g a b (Err error) = (IsUnknown g a ⊎ IsUnknown g b) × (error ≡ UnknownPackageId)

-- both packages are known, and the answer says whether a path leads from the one to the other (from guppy's `depends_on`)
pub record SaysReaches (g : TableValue) (a b : Text) (answer : Bool) : Type 0 where
  pub from : ℕ
  pub to : ℕ
  pub is_from : IsAt g a from
  pub is_to : IsAt g b to
  pub says : IsTrue answer ↔ Reaches (numbered_links g) any_link from to

abbrev pub AnswersDepending : TableValue → Text → Text → Result Bool Error → Type 0
AnswersDepending g a b (Ok answer) = SaysReaches g a b answer
AnswersDepending g a b (Err error) = (error ≡ Memory) ⊎ ((IsUnknown g a ⊎ IsUnknown g b) × (error ≡ UnknownPackageId))

-- some link leads from the one node to the other (from guppy's `depends_on`)
pub record HasLink (g : TableValue) (from to : ℕ) : Type 0 where
  pub number : ℕ
  pub within : number < length g.links
  pub between : IsBetween from to (numbered_links g) number

-- both packages are known, and the answer says whether a link leads from the one to the other
pub record SaysLinked (g : TableValue) (a b : Text) (answer : Bool) : Type 0 where
  pub from : ℕ
  pub to : ℕ
  pub is_from : IsAt g a from
  pub is_to : IsAt g b to
  pub says : IsTrue answer ↔ HasLink g from to

abbrev pub AnswersDirectly : TableValue → Text → Text → Result Bool Error → Type 0
AnswersDirectly g a b (Ok answer) = SaysLinked g a b answer
AnswersDirectly g a b (Err error) = (IsUnknown g a ⊎ IsUnknown g b) × (error ≡ UnknownPackageId)
