-- Whether the source of a link is a workspace package, as a graph finds it and as its rows say it.
use Rattle.std.proofs.Common.{◌≡◌, ◌∙◌, ◌&&◌, ℕ, Bool, true, false, cond, List, [], ◌∷◌, Option, Some, None, ap, refl, sym, subst, find, option_map, is_some, slice_get}
use Rattle.std.specs.List.{list_any}
use Rattle.std.specs.Cmp.Lexicographic.{bytes_decides}
use Rattle.std.specs.Str.{bytes_eq}
use Rattle.std.proofs.lemmas.List.{get_or-map}
use Rattle.std.proofs.lemmas.Option.{get_or_from_slice_get, same_Some, slice_get_within}
use Rattle.workspace_record.specs.Records.{Link, Package, Text}
use Rattle.workspace_record.proofs.PackageFacts.{some-find}
use Rattle.feature_account_rules.specs.Lines.{is_workspace_package}
use Rattle.numbered_graph.specs.Links.{link_at}
use Rattle.guppy_package_rules.specs.Kept.{IsPackageId}
use Rattle.guppy_package_rules.proofs.KeptFacts.{known_iff}
use Rattle.guppy_package_table.specs.Tables.{TableValue, ids_of, link_between, member_of, member_path_at, numbered_links, place_among}
use Rattle.guppy_package_table.proofs.Places.{found_among}
use Rattle.guppy_package_graph.proofs.PlaceFacts.{member_has_path, path_at_row}
use Rattle.test_select_features.specs.LinesOn.{rows_of}

-- what is found passes
find_passes : {X : Type 0} (p : X → Bool) (xs : List X) (x : X) → find p xs ≡ Some x → p x ≡ true
find_passes p [] x e = absurd cc
find_passes {X} p (y ∷ ys) x e = by (p y) refl (find_passes p ys x) e
  where
    by : (b : Bool) → p y ≡ b → (find p ys ≡ Some x → p x ≡ true) → cond b (Some y) (find p ys) ≡ Some x → p x ≡ true
    by true h rest e = subst (λ z. p z ≡ true) (same_Some y x e) h
    by false h rest e = rest e

-- the path of the member with an id that a package has
path_of_known : (g : TableValue) (id : Text) (o : Option Package) → find (λ p. bytes_eq id p.id) g.packages ≡ o → is_some o ≡ true → member_path_at g (place_among (ids_of g.packages) id) ≡ option_map (λ m. m.path) (member_of g id)
path_of_known g id (Some row) e some =
    path_at_row g (place_among (ids_of g.packages) id) row (found_among (bytes_eq id) (λ p. p.id) g.packages ∙ e)
    ∙ ap (λ x. option_map (λ m. m.path) (member_of g x)) (sym ((bytes_decides id row.id).0 (find_passes (λ p. bytes_eq id p.id) g.packages row e)))
path_of_known g id None e some = absurd cc

-- a link of which a package has the source's id leads from the place of a workspace package exactly where the rows say so
pub source_in_workspace : (g : TableValue) (number : ℕ) (row : Link) → slice_get g.links number ≡ Some row → IsPackageId g.packages row.from → is_some (member_path_at g (link_at (numbered_links g) number).from) ≡ is_workspace_package (rows_of g) row.from
source_in_workspace g number row is known =
    let id = row.from in
    let ids = ids_of g.packages in
    let among : list_any (λ p. bytes_eq id p.id) g.packages ≡ true = (known_iff (λ p. p.id) id g.packages).1 known in
    let found = some-find (λ p. bytes_eq id p.id) g.packages ∙ among in
    let place : (link_at (numbered_links g) number).from ≡ place_among ids id =
    ap (λ l. l.from) (get_or-map (link_between ids) g.links number row (record { from = 0; to = 0 }) (slice_get_within g.links number row is)) ∙ ap (λ (l : Link). place_among ids l.from) (get_or_from_slice_get g.links number row row is) in
    ap (λ v. is_some (member_path_at g v)) place
    ∙ ap is_some (path_of_known g id (find (λ p. bytes_eq id p.id) g.packages) refl found)
    ∙ member_has_path g id
    ∙ some-find (λ m. bytes_eq id m.package_id) g.workspace.members
    ∙ sym (ap (λ b. b && list_any (λ m. bytes_eq id m.package_id) g.workspace.members) among)
