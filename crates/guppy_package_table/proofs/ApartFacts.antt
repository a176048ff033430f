-- Members of a kept workspace have distinct paths and distinct names.
use Rattle.guppy_package_table.proofs.Places.{found_among, place_known}
use Rattle.guppy_package_table.specs.Tables.{TableValue, ids_of, member_of, place_among}
use Rattle.guppy_package_table.specs.Members.{member_places, name_at, path_at}
use Rattle.list_facts.proofs.Ascending.{text_exact}
use Rattle.list_facts.specs.Ascending.{text_cmp}
use Rattle.guppy_package_rules.proofs.PathFacts.{same_components}
use Rattle.guppy_package_rules.specs.Kept.{AreKept, IsPackageId}
use Rattle.guppy_package_rules.specs.Paths.{components, path_cmp}
use Rattle.guppy_package_rules.specs.Rules.{member_name}
use Rattle.std.proofs.Common.{Bool, true, false, zero, suc, ◌∷◌, cond, arith}
use Rattle.std.proofs.Common.{◌≡◌, ◌≢◌, ℕ, ◌<◌, List, [], Some, length, get_or, map, find, option_map, unwrap_or, refl, sym, subst, ap, ◌∙◌, AllPairs, Equal}
use Rattle.std.proofs.lemmas.List.Sums.{passes_at_first}
use Rattle.std.proofs.lemmas.List.{get_or-map, length-map}
use Rattle.std.specs.Cmp.Lexicographic.{bytes_decides}
use Rattle.std.specs.Str.{bytes_eq}
use Rattle.workspace_record.specs.Records.{Member, Package, Text}

unlike : (a b : Text) → a ≢ b → bytes_eq a b ≡ false
unlike a b apart = not_true (bytes_eq a b) (λ e. apart ((bytes_decides a b).0 e))
  where
    not_true : (b : Bool) → (b ≢ true) → b ≡ false
    not_true true h = absurd (h refl)
    not_true false h = refl

-- the id at the place of an id that is known
id_there : (packages : List Package) (id : Text) → IsPackageId packages id → get_or (ids_of packages) (place_among (ids_of packages) id) [] ≡ id
id_there packages id known = sym ((bytes_decides id _).0 (passes_at_first (bytes_eq id) (ids_of packages) [] (place_known packages id known)))

-- a member is found by its own id
own_member : (members : List Member) → AllPairs (λ a b. a.package_id ≢ b.package_id) members → (i : ℕ) (d : Member) → i < length members → find (λ m. bytes_eq (get_or members i d).package_id m.package_id) members ≡ Some (get_or members i d)
own_member [] apart i d lt = absurd (omega (arith, lt))
own_member (m ∷ ms) apart zero d lt = ap (λ b. cond b (Some m) (find (λ n. bytes_eq m.package_id n.package_id) ms)) ((bytes_decides m.package_id m.package_id).1 refl)
own_member (m ∷ ms) apart (suc i) d lt =
    ap (λ b. cond b (Some m) (find (λ n. bytes_eq (get_or ms i d).package_id n.package_id) ms)) (unlike (get_or ms i d).package_id m.package_id (λ e. apart 0 (suc i) d (omega arith) lt (sym e))) ∙ own_member ms (λ j k e lt small. apart (suc j) (suc k) e (omega arith) (omega arith)) i d (omega arith)

module _ (t : TableValue) (kept : AreKept t.packages t.links t.workspace) where
  abbrev nobody : Member
  nobody = record { package_id = []; path = [] }

  abbrev place_of : Member → ℕ
  place_of m = place_among (ids_of t.packages) m.package_id

  path_of : (i : ℕ) → i < length t.workspace.members → path_at t (place_of (get_or t.workspace.members i nobody)) ≡ (get_or t.workspace.members i nobody).path
  path_of i lt =
      ap (λ id. unwrap_or (option_map (λ (m : Member). m.path) (member_of t id)) []) (id_there t.packages (get_or t.workspace.members i nobody).package_id (kept.members_known i nobody lt)) ∙ ap (λ m. unwrap_or (option_map (λ (m : Member). m.path) m) []) (own_member t.workspace.members kept.members_apart i nobody lt)

  name_of : (m : Member) → name_at t (place_of m) ≡ member_name t.packages m
  name_of m = ap (λ p. unwrap_or (option_map (λ (p : Package). p.name) p) []) (found_among (bytes_eq m.package_id) (λ p. p.id) t.packages)

  at_place : {Y : Type 0} (read : ℕ → Y) (i d : ℕ) → i < length t.workspace.members → read (get_or (map place_of t.workspace.members) i d) ≡ read (place_of (get_or t.workspace.members i nobody))
  at_place read i d lt = ap read (get_or-map place_of t.workspace.members i nobody d lt)

  below_members : (j : ℕ) → j < length (map place_of t.workspace.members) → j < length t.workspace.members
  below_members j lt = subst (λ n. j < n) (length-map t.workspace.members place_of) lt

  pub paths_apart : AllPairs (λ u v. path_cmp (path_at t u) (path_at t v) ≢ Equal) (member_places t)
  paths_apart i j d lt small tie =
      let sj = below_members j small in
      let si : i < length t.workspace.members = omega (arith, lt, sj) in
      kept.member_paths_apart i j nobody lt sj (sym (ap components (at_place (path_at t) i d si ∙ path_of i si)) ∙ same_components (path_at t (get_or (member_places t) i d)) (path_at t (get_or (member_places t) j d)) tie ∙ ap components (at_place (path_at t) j d sj ∙ path_of j sj))

  pub names_apart : AllPairs (λ u v. text_cmp (name_at t u) (name_at t v) ≢ Equal) (member_places t)
  names_apart i j d lt small tie =
      let sj = below_members j small in
      let si : i < length t.workspace.members = omega (arith, lt, sj) in
      kept.member_names_apart i j nobody lt sj (sym (at_place (name_at t) i d si ∙ name_of (get_or t.workspace.members i nobody)) ∙ text_exact _ _ tie ∙ at_place (name_at t) j d sj ∙ name_of (get_or t.workspace.members j nobody))
