-- Paths between packages, in graphs that list the same packages and links in whichever order.
use Rattle.std.proofs.Common.{◌≡◌, refl, sym, ap, subst, ◌∙◌, ℕ, ◌<◌, ◌≢◌, false, cond, List, [], ◌∷◌, Some, None, All, AllPairs, Contains, get_or, map, length, position, nat_lt, slice_get, take}
use Rattle.std.specs.Cmp.Lexicographic.{bytes_decides}
use Rattle.std.specs.List.{list_any}
use Rattle.std.specs.Str.{bytes_eq}
use Rattle.std.proofs.lemmas.Bool.{lt-ltb}
use Rattle.std.proofs.lemmas.List.{get_or-map, get_or_default, length-map, take-map}
use Rattle.std.proofs.lemmas.List.Elements.{All-contains, Contains-get_or}
use Rattle.std.proofs.lemmas.List.Quantifiers.{position-Some}
use Rattle.std.proofs.lemmas.Option.{cond_some, get_or_from_slice_get, slice_get_within}
use Rattle.list_facts.proofs.Membership.{Contains-map, Contains-map_cases}
use Rattle.numbered_graph.specs.declared.link.Link.{Link as NumberedLink}
use Rattle.numbered_graph.specs.Links.{link_at}
use Rattle.numbered_graph.specs.Paths.{IsPath, Reaches, any_link}
use Rattle.workspace_record.specs.Records.{Link, Package, Text}
use Rattle.guppy_package_rules.specs.Kept.{IsPackageId}
use Rattle.guppy_package_rules.proofs.Positions.{position_at}
use Rattle.guppy_package_table.specs.Tables.{ids_of, link_between, links_among, place_among}
use Rattle.guppy_package_table.proofs.IdFacts.{new_id}
use Rattle.guppy_package_table.proofs.Places.{place_known}

-- the first of the packages with the id has the place
abbrev pub IsPlaceOf : List Package → Text → ℕ → Type 0
IsPlaceOf packages id place = position (bytes_eq id) (ids_of packages) ≡ Some place

module _ (packages : List Package) where
  pub place_is : (id : Text) (v : ℕ) → IsPlaceOf packages id v → place_among (ids_of packages) id ≡ v
  place_is id v at = (cond_some (nat_lt (place_among (ids_of packages) id) (length (ids_of packages))) (place_among (ids_of packages) id) v at).1

  -- an id of a package has its place
  pub has_place : (id : Text) → IsPackageId packages id → IsPlaceOf packages id (place_among (ids_of packages) id)
  has_place id known =
      let place = place_among (ids_of packages) id in
      ap (λ b. cond b (Some place) None) (lt-ltb place (length (ids_of packages)) (place_known packages id known))

  listed_at : (id : Text) (v : ℕ) → IsPlaceOf packages id v → Contains (ids_of packages) id
  listed_at id v at =
      let found = position-Some (bytes_eq id) (ids_of packages) v id at in
      (v, found.0, sym ((bytes_decides id _).0 found.1))

  -- one id has the place
  pub one_id : (a b : Text) (v : ℕ) → IsPlaceOf packages a v → IsPlaceOf packages b v → a ≡ b
  one_id a b v at too =
      let found = position-Some (bytes_eq a) (ids_of packages) v [] at in
      let again = position-Some (bytes_eq b) (ids_of packages) v [] too in
      (bytes_decides a _).0 found.1 ∙ sym ((bytes_decides b _).0 again.1)

  -- what has a place is the id of a package
  pub package_at : (id : Text) (v : ℕ) → IsPlaceOf packages id v → (p : Package) × Contains packages p × (p.id ≡ id)
  package_at id v at = Contains-map_cases (λ (p : Package). p.id) packages id (listed_at id v at)

  -- where ids are apart, a package stands at the place of its id
  pub place_alone : AllPairs (λ a b. a.id ≢ b.id) packages → (p : Package) (v : ℕ) → slice_get packages v ≡ Some p → IsPlaceOf packages p.id v
  place_alone apart p v at =
      let within = slice_get_within packages v p at in
      let itself : p.id ≡ get_or (ids_of packages) v [] = ap (λ (q : Package). q.id) (sym (get_or_from_slice_get packages v p p at)) ∙ sym (get_or-map (λ (q : Package). q.id) packages v p [] within) in
      let new : list_any (bytes_eq p.id) (take v (ids_of packages)) ≡ false =
      ap (list_any (bytes_eq p.id)) (take-map (λ (q : Package). q.id) v packages) ∙ subst (λ (q : Package). list_any (bytes_eq q.id) (map (λ (x : Package). x.id) (take v packages)) ≡ false) (get_or_from_slice_get packages v p p at) (new_id (λ (q : Package). q.id) packages v p within apart) in
      position_at (bytes_eq p.id) (ids_of packages) v [] (subst (λ n. v < n) (sym (length-map packages (λ (q : Package). q.id))) within) new ((bytes_decides p.id (get_or (ids_of packages) v [])).1 itself)

abbrev pub AreEnds : List Package → Link → Type 0
AreEnds packages l = IsPackageId packages l.from × IsPackageId packages l.to

module _ (ps qs : List Package) (ls ms : List Link) (ends : All (AreEnds ps) ls) (others : All (AreEnds qs) ms) (too : (l : Link) → Contains ls l → (m : Link) × Contains ms m × (l.from ≡ m.from) × (l.to ≡ m.to)) where
  -- a path between places leads between the places of the same ids
  path_there : (a b : Text) (u v x : ℕ) (js : List ℕ) → IsPlaceOf ps a u → IsPath (links_among ps ls) any_link u js v → IsPlaceOf ps b v → IsPlaceOf qs a x → (y : ℕ) × IsPlaceOf qs b y × Reaches (links_among qs ms) any_link x y
  path_there a b u v x [] at path end there =
      let same = one_id ps a b v (subst (λ place. IsPlaceOf ps a place) path at) end in
      (x, subst (λ id. IsPlaceOf qs id x) same there, record { path = []; leads = refl })
  path_there a b u v x (j ∷ js) at path end there =
      let nowhere : NumberedLink = record { from = 0; to = 0 } in
      let (l, listed, is) = Contains-map_cases (link_between (ids_of ps)) ls (link_at (links_among ps ls) j) (Contains-get_or (links_among ps ls) j nowhere path.0) in
      let (m, inside, from, to) = too l listed in
      let known = All-contains (AreEnds ps) ls l ends listed in
      let known_there = All-contains (AreEnds qs) ms m others inside in
      let starts : IsPlaceOf ps l.from u = subst (λ place. IsPlaceOf ps l.from place) (ap (λ (k : NumberedLink). k.from) is ∙ path.2) (has_place ps l.from known.0) in
      let same = one_id ps a l.from u at starts in
      let near : place_among (ids_of qs) m.from ≡ x = place_is qs m.from x (subst (λ id. IsPlaceOf qs id x) (same ∙ from) there) in
      let target = place_among (ids_of ps) l.to in
      let next = place_among (ids_of qs) m.to in
      let goes_on : IsPath (links_among ps ls) any_link target js v = subst (λ (k : NumberedLink). IsPath (links_among ps ls) any_link k.to js v) (sym is) path.3 in
      let (y, there_too, rest) = path_there l.to b target v next js (has_place ps l.to known.1) goes_on end (subst (λ id. IsPlaceOf qs id next) (sym to) (has_place qs m.to known_there.1)) in
      let link = link_between (ids_of qs) m in
      let found = Contains-map (link_between (ids_of qs)) ms m inside in
      let at_link : link_at (links_among qs ms) found.0 ≡ link = get_or_default (links_among qs ms) found.0 nowhere link found.1 ∙ found.2 in
      let leads : IsPath (links_among qs ms) any_link x (found.0 ∷ rest.path) y = (found.1, refl, ap (λ (k : NumberedLink). k.from) at_link ∙ near, subst (λ (k : NumberedLink). IsPath (links_among qs ms) any_link k.to rest.path y) (sym at_link) rest.leads) in
      (y, there_too, record { path = found.0 ∷ rest.path; leads = leads })

  pub reaches_there : (a b : Text) (u v x : ℕ) → IsPlaceOf ps a u → Reaches (links_among ps ls) any_link u v → IsPlaceOf ps b v → IsPlaceOf qs a x → (y : ℕ) × IsPlaceOf qs b y × Reaches (links_among qs ms) any_link x y
  reaches_there a b u v x at path end there = path_there a b u v x path.path at path.leads end there
