-- Orders in which packages build.
use Rattle.std.specs.Prelude.{◌≡◌, ◌≢◌, ◌↔◌, ℕ, Bool, List, [], Some, AllPairs, Contains, filter, length, map, nat_lt, position, reverse, slice_index_or}
use Rattle.std.specs.Str.{bytes_eq}
use Rattle.numbered_graph.specs.Listings.{IsListing}
use Rattle.numbered_graph.specs.Paths.{Reaches, any_link}
use Rattle.numbered_graph.specs.Sets.{has}
use Rattle.workspace_record.specs.Records.{Link, Package, Text}
use Rattle.workspace_record.specs.Features.{FeatureValue}
use Rattle.feature_account.specs.Accounts.{concluded_set}
use Rattle.feature_account_rules.specs.RuleList.{base_of}
use Rattle.guppy_package_rules.specs.Kept.{IsPackageId}
use Rattle.guppy_package_table.specs.Tables.{firm_flags, ids_of, links_among}

module _ (packages : List Package) (links : List Link) where
  -- a path of links that pass leads from the package with the one id to that with the other
  pub record Leads (passes : ℕ → Bool) (a b : Text) : Type 0 where
    pub from : ℕ
    pub to : ℕ
    pub is_from : position (bytes_eq a) (ids_of packages) ≡ Some from
    pub is_to : position (bytes_eq b) (ids_of packages) ≡ Some to
    pub path : Reaches (links_among packages links) passes from to

  -- a package leads to one that is listed after it only where that one leads back (Cargo builds dependencies first)
  abbrev pub AreBehind : (ℕ → Bool) → List Text → Type 0
  AreBehind passes ids = AllPairs (λ a b. Leads passes a b → Leads passes b a) ids

  -- the ids are those that a graph of the packages with these links lists in Reverse, without those of packages that are off
  -- (Cargo builds dependencies first)
  pub record IsListedInReverse (on : List FeatureValue) (ids : List Text) : Type 0 where
    pub listing : List ℕ
    pub is_listing : IsListing (links_among packages links) (has (firm_flags links)) (λ v. nat_lt v (length packages)) listing
    pub ids_are : ids ≡ filter (λ id. concluded_set on (base_of id)) (map (λ v. slice_index_or (ids_of packages) v []) (reverse listing))

  -- the packages that are on, each once, dependencies first: by all links, and by those with a normal or a build line alone
  -- (Cargo builds dependencies first)
  pub record IsDependencyOrder (on : List FeatureValue) (ids : List Text) : Type 0 where
    pub members : (id : Text) → Contains ids id ↔ (IsPackageId packages id × Contains on (base_of id))
    pub once : AllPairs (λ a b. a ≢ b) ids
    pub dependencies_first : AreBehind any_link ids
    pub firm_dependencies_first : AreBehind (has (firm_flags links)) ids
    pub listed : IsListedInReverse on ids
