-- Which package an id means, what it has, and which packages are the workspace's.
use Rattle.std.specs.Prelude.{Bool, ◌&&◌, not, List, [], ◌∷◌, Option, find, filter}
use Rattle.std.specs.List.{list_any}
use Rattle.std.specs.Str.{bytes_eq}
use Rattle.workspace_record.specs.Records.{Text, Package, Workspace}

-- the package with this id: of several the first
abbrev pub package_of : Workspace → Text → Option Package
package_of w id = find (λ p. bytes_eq id p.id) w.packages

-- of packages with one id the first
abbrev pub first_of_each : List Package → List Package
first_of_each [] = []
first_of_each (p ∷ ps) = p ∷ filter (λ q. not (bytes_eq p.id q.id)) (first_of_each ps)

-- the package's manifest names the feature (from Cargo's reference, "Features", "Workspaces")
abbrev pub has_feature : Package → Text → Bool
has_feature p name = list_any (λ f. bytes_eq name f.name) p.features

-- the package has an optional dependency of this name (from Cargo's reference, "Features", "Workspaces")
abbrev pub has_optional : Package → Text → Bool
has_optional p name = list_any (bytes_eq name) p.optional

-- the id stands among the members (from Cargo's reference, "Features", "Workspaces")
abbrev pub is_member : Workspace → Text → Bool
is_member w id = list_any (λ m. bytes_eq id m.package_id) w.workspace.members

-- a workspace package stands among the packages and among the members (from Cargo's reference, "Features", "Workspaces")
abbrev pub is_workspace_package : Workspace → Text → Bool
is_workspace_package w id = list_any (λ p. bytes_eq id p.id) w.packages && is_member w id
