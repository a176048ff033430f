-- The package of each node is among the packages.
use Rattle.std.proofs.Common.{◌≡◌, ◌≢◌, ℕ, List, [], ◌++◌, AllPairs, Contains, Some, get_or, map, position, slice_get, sym, subst, ap, ◌∙◌, ⊎_elim, arith}
use Rattle.std.specs.List.{flat_map}
use Rattle.std.specs.Str.{bytes_eq}
use Rattle.std.proofs.lemmas.Bool.{cases_lt}
use Rattle.std.proofs.lemmas.List.{get_or-map}
use Rattle.std.proofs.lemmas.List.Quantifiers.{position-Some}
use Rattle.std.proofs.lemmas.Option.{get_or_from_slice_get, slice_get_within}
use Rattle.std.proofs.lemmas.Slice.Eq.{bytes_eq-Decides}
use Rattle.list_facts.proofs.Membership.{Contains-append_cases, Contains-cons_cases, Contains-map, Contains-map_cases, Contains-flat_map_cases}
use Rattle.workspace_record.specs.Records.{FeatureEntry, Package}
use Rattle.workspace_record.specs.Features.{FeatureValue, feature_eq}
use Rattle.guppy_feature_demands.specs.Nodes.{base_of, dep_of, features_of, named_of, nodes_of}
use Rattle.guppy_package_table.specs.Tables.{ids_of}
use Rattle.guppy_feature_nodes.proofs.EdgeFacts.{first_of_each-among}

-- a package's features are its own
pub own_id : (p : Package) (f : FeatureValue) → Contains (features_of p) f → p.id ≡ f.package_id
own_id p f h =
    let id : (g : FeatureValue) → g ≡ f → g.package_id ≡ f.package_id = λ g e. ap (λ (x : FeatureValue). x.package_id) e in
    ⊎_elim (id (base_of p.id)) (λ r. ⊎_elim
    (λ n. let found = Contains-map_cases (λ (e : FeatureEntry). named_of p.id e.name) p.features f n in id (named_of p.id found.0.name) found.2)
    (λ n. let found = Contains-map_cases (dep_of p.id) p.optional f n in id (dep_of p.id found.0) found.2)
    (Contains-append_cases (map (λ (e : FeatureEntry). named_of p.id e.name) p.features) (map (dep_of p.id) p.optional) f r))
    (Contains-cons_cases (base_of p.id) (map (λ (e : FeatureEntry). named_of p.id e.name) p.features ++ map (dep_of p.id) p.optional) f h)

pub node_package : (packages : List Package) (f : FeatureValue) → Contains (nodes_of packages) f → Contains (ids_of packages) f.package_id
node_package packages f h =
    let found = Contains-flat_map_cases features_of packages f (first_of_each-among feature_eq (flat_map features_of packages) f h) in
    subst (Contains (ids_of packages)) (own_id found.0 f found.2) (Contains-map (λ (p : Package). p.id) packages found.0 found.1)

-- of packages whose ids differ one has the id
one_row : (packages : List Package) → AllPairs (λ a b. a.id ≢ b.id) packages → (place : ℕ) (p row : Package) → Contains packages p → slice_get packages place ≡ Some row → p.id ≡ row.id → p ≡ row
one_row packages apart place p row (k, lt, is) at same =
    let within = slice_get_within packages place row at in
    let here : get_or packages place p ≡ row = get_or_from_slice_get packages place row p at in
    let ids : (get_or packages k p).id ≡ (get_or packages place p).id = ap (λ (x : Package). x.id) is ∙ same ∙ ap (λ (x : Package). x.id) (sym here) in
    ⊎_elim (λ before. absurd (apart k place p before within ids)) (λ up. ⊎_elim (λ after. absurd (apart place k p after lt (sym ids))) (λ down. sym is ∙ ap (λ n. get_or packages n p) (omega (arith, up, down)) ∙ here) (cases_lt place k)) (cases_lt k place)

-- a node stands in the row that has its package's id
pub node_row : (packages : List Package) → AllPairs (λ a b. a.id ≢ b.id) packages → (f : FeatureValue) (place : ℕ) (row : Package) → Contains (nodes_of packages) f → position (bytes_eq f.package_id) (ids_of packages) ≡ Some place → slice_get packages place ≡ Some row → Contains (features_of row) f
node_row packages apart f place row h at is =
    let found = Contains-flat_map_cases features_of packages f (first_of_each-among feature_eq (flat_map features_of packages) f h) in
    let placed = position-Some (bytes_eq f.package_id) (ids_of packages) place [] at in
    let id : f.package_id ≡ get_or (ids_of packages) place [] = (bytes_eq-Decides f.package_id (get_or (ids_of packages) place [])).0 placed.1 in
    let own : get_or (ids_of packages) place [] ≡ row.id = get_or-map (λ (p : Package). p.id) packages place row [] (slice_get_within packages place row is) ∙ ap (λ (p : Package). p.id) (get_or_from_slice_get packages place row row is) in
    subst (λ (p : Package). Contains (features_of p) f) (one_row packages apart place found.0 row found.1 is (own_id found.0 f found.2 ∙ id ∙ own)) found.2
