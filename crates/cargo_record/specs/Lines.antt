-- The lines of a record, each a declared dependency that Cargo resolved.
use Rattle.std.specs.Prelude.{ℕ, ◌<◌, ◌≤◌, length, slice_index_or, ◌≡◌, ◌≢◌, ◌↔◌, ◌⊎◌, ◌||◌, Bool, true, false, not, List, [], ◌∷◌, map, flat_map, All, AllPairs, Contains, nat_eq, Some, None}
use Rattle.std.specs.List.{list_any}
use Rattle.workspace_record.specs.Kinds.{line_kind_index}
use Rattle.workspace_record.specs.Records.{Text, Line, Link, Workspace}
use Rattle.workspace_record.specs.declared.kinds.LineKind.TheVariants.{Dev}
use Rattle.workspace_record.specs.Packages.{is_member}
use Rattle.cargo_metadata.specs.Dependencies.{Declared, name_of}
use Rattle.cargo_metadata.specs.Metadata.{Metadata}
use Rattle.cargo_metadata.specs.Packages.{Declaring}
use Rattle.cargo_metadata.specs.Resolved.{Node}
use Rattle.cargo_record.specs.Fitting.{fits, fits_to}
use Rattle.cargo_record.specs.declared.fitting.Resolution.{Resolution}
use Rattle.cargo_record.specs.declared.fitting.Resolution.TheVariants.{Nothing, To, Several}

-- a line with the link that it stands in
pub record LineRow : Type 0 where
  pub from : Text
  pub to : Text
  pub name : Text
  pub line : Line

-- the line of a link
abbrev pub row_in : Link → Line → LineRow
row_in link line = record { from = link.from; to = link.to; name = link.name; line = line }

-- all lines, each with its link
abbrev pub line_rows : List Link → List LineRow
line_rows links = flat_map (λ link. map (row_in link) link.lines) links

-- a link of this name between these packages
abbrev pub IsLink : Link → Text → Text → Text → Type 0
IsLink link from to name = (link.from ≡ from) × (link.to ≡ to) × (link.name ≡ name)

-- no link
abbrev pub no_link : Link
no_link =
    record { from = []; to = []; name = []; requirement = []; lines = []; registry = None; path = None }

-- such a link stands at the place
abbrev pub IsLinkAt : List Link → ℕ → Text → Text → Text → Type 0
IsLinkAt links i from to name = IsLink (slice_index_or links i no_link) from to name

-- no two of the links have one name between the same packages
abbrev pub AreApart : List Link → Type 0
AreApart links = AllPairs (λ a b. ¬ IsLink a b.from b.to b.name) links

-- so, and those before the place are of other packages than that with the id
pub record AreApartFrom (start : ℕ) (id : Text) (links : List Link) : Type 0 where
  pub within : start ≤ length links
  pub before : (k : ℕ) → k < start → (slice_index_or links k no_link).from ≢ id
  pub apart : AreApart links

-- what a dependency of a package is as a line to the package with an id
abbrev pub row_of : Text → Text → Declared → LineRow
row_of from to d = record { from = from; to = to; name = name_of d; line = d.line }

-- the link of a dependency of a package, which has its requirement, registry and path, and its line first
abbrev pub link_of : Text → Text → Declared → List Line → Link
link_of from to d more =
    record { from = from; to = to; name = name_of d; requirement = d.requirement; lines = d.line ∷ more; registry = d.registry; path = d.path }

-- the link is of a dependency that one of the packages declares
pub record IsDeclaredLink (packages : List Declaring) (link : Link) : Type 0 where
  pub owner : Declaring
  pub declared : Declared
  pub more : List Line
  pub is_owner : Contains packages owner
  pub is_declared : Contains owner.dependencies declared
  pub is : link ≡ link_of owner.row.id link.to declared more

-- declared links stay so, if a package with the id declares the dependency
abbrev pub StayDeclared : Text → Declared → List Link → List Link → Type 0
StayDeclared id d old new =
    (packages : List Declaring) (p : Declaring) → Contains packages p → p.row.id ≡ id → Contains p.dependencies d → All (IsDeclaredLink packages) old → All (IsDeclaredLink packages) new

-- just one more element
abbrev pub IsOneMore : {X : Type 0} → List X → X → List X → Type 0
IsOneMore {X = X} old x new = (y : X) → Contains new y ↔ (Contains old y ⊎ (x ≡ y))

-- a dependency that Cargo resolves: those for development are a member's alone
abbrev pub counts : Workspace → Text → Declared → Bool
counts w id d = is_member w id || not (nat_eq (line_kind_index d.line.kind) (line_kind_index Dev))

-- the row is that of the dependency of the package, which was resolved to the row's target
-- (from Cargo's reference, "External tools")
pub record IsLineOf (w : Workspace) (p : Declaring) (n : Node) (d : Declared) (row : LineRow) : Type 0 where
  pub counts : counts w p.row.id d ≡ true
  pub is : row ≡ row_of p.row.id row.to d
  pub resolved : list_any (fits_to w d row.to) n.dependencies ≡ true

-- the dependency is left out: it is optional, of no member, and nothing fits it
pub record IsLeftOut (w : Workspace) (p : Declaring) (n : Node) (d : Declared) : Type 0 where
  pub optional : d.line.optional ≡ true
  pub foreign : is_member w p.row.id ≡ false
  pub nothing : list_any (fits w d) n.dependencies ≡ false

-- the dependency has a line among the rows, or is left out
abbrev pub IsSeenTo : Workspace → Declaring → Node → List LineRow → Declared → Type 0
IsSeenTo w p n rows d = ((to : Text) × Contains rows (row_of p.row.id to d)) ⊎ IsLeftOut w p n d

-- rows that hold the lines of these dependencies of a package, and otherwise those that were there
pub record TakesUp (w : Workspace) (p : Declaring) (n : Node) (ds : List Declared) (old new : List LineRow) : Type 0 where
  pub keeps : (row : LineRow) → Contains old row → Contains new row
  pub sound : (row : LineRow) → Contains new row → Contains old row ⊎ ((d : Declared) × Contains ds d × IsLineOf w p n d row)
  pub whole : (d : Declared) → Contains ds d → counts w p.row.id d ≡ true → IsSeenTo w p n new d

-- what the resolution of a dependency of the package with the id makes of the rows
abbrev pub IsPushed : Workspace → Text → Declared → Resolution → List LineRow → List LineRow → Type 0
IsPushed w from d (To id) old new = IsOneMore old (row_of from id.now d) new
IsPushed w from d Nothing old new = (new ≡ old) × (d.line.optional ≡ true) × (is_member w from ≡ false)
IsPushed w from d Several old new = ⊥

-- the row is that of a dependency of one of the packages, which was resolved to the row's target
pub record IsResolvedLine (w : Workspace) (packages : List Declaring) (nodes : List Node) (row : LineRow) : Type 0 where
  pub owner : Declaring
  pub node : Node
  pub declared : Declared
  pub is_owner : Contains packages owner
  pub is_node : Contains nodes node
  pub same : node.id ≡ owner.row.id
  pub is_declared : Contains owner.dependencies declared
  pub line : IsLineOf w owner node declared row

-- each dependency of the package that counts has a line among the rows, or is left out
pub record IsWhole (w : Workspace) (nodes : List Node) (rows : List LineRow) (p : Declaring) : Type 0 where
  pub node : Node
  pub is_node : Contains nodes node
  pub same : node.id ≡ p.row.id
  pub each : (d : Declared) → Contains p.dependencies d → counts w p.row.id d ≡ true → IsSeenTo w p node rows d

-- the rows are just the lines of the packages' dependencies
pub record AreLines (w : Workspace) (packages : List Declaring) (nodes : List Node) (rows : List LineRow) : Type 0 where
  pub sound : (row : LineRow) → Contains rows row → IsResolvedLine w packages nodes row
  pub whole : (p : Declaring) → Contains packages p → IsWhole w nodes rows p

-- so for the packages that the metadata list, and what they resolve (from Cargo's reference, "External tools")
abbrev pub AreLinesOf : Workspace → Metadata → List LineRow → Type 0
AreLinesOf w m rows = (nodes : List Node) × (m.nodes ≡ Some nodes) × AreLines w m.packages nodes rows

-- a record without its links
abbrev pub unlinked : Workspace → Workspace
unlinked w = record w { links = [] }
