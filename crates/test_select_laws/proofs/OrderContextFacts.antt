-- Contexts of records that list the same in whichever order.
use Rattle.std.proofs.Common.{◌≡◌, sym, ap, subst, ◌∙◌, ℕ, List, [], Some, All, Contains, map, slice_get}
use Rattle.std.proofs.lemmas.List.Elements.{All-contains}
use Rattle.std.proofs.lemmas.Option.{same_Some, slice_get-get_or}
use Rattle.list_facts.proofs.Membership.{Contains-flat_map, Contains-flat_map_cases, Contains-map, Contains-map_cases}
use Rattle.list_facts.proofs.Quantifiers.{All-from_Contains}
use Rattle.workspace_record.specs.Records.{FeatureEntry, Link, Member, Package, Target, Text, Workspace}
use Rattle.workspace_record.specs.Features.{FeatureValue}
use Rattle.workspace_record.specs.declared.choice.PlatformTable.{PlatformTable}
use Rattle.guppy_package_rules.specs.Kept.{AreKept, IsPackageId}
use Rattle.feature_account.proofs.AccountFacts.{Contains-slice_get}
use Rattle.guppy_package_table.specs.Tables.{TableValue, ids_of, place_among}
use Rattle.test_select_features.specs.LinesOn.{links_on}
use Rattle.guppy_package_parts.specs.BuildTargets.{id_of}
use Rattle.nextest_filtering.specs.Contexts.{ContextValue, Leads, binaries_of, binary_kind, features_of, named_binary}
use Rattle.test_select_checks.specs.Contexts.{HasNamesOf, IsDeclaredGraph, IsNeeded}
use Rattle.test_select_checks.proofs.OneRecordFacts.{leads_too, needed_too}
use Rattle.test_select_tests.specs.Following.{IsFollowedIn}
use Rattle.test_select_tests.specs.declared.scope.LinkScope.{LinkScope}
use Rattle.test_select_tests.specs.declared.scope.LinkScope.TheVariants.{SwitchedOn, Declared}
use Rattle.test_select_feature_laws.specs.Laws as features
use Rattle.test_select_feature_laws.proofs.OrderFacts.{turned_alike, turned_package}
use Rattle.test_select_feature_laws.proofs.OrderFacts as kept_orders
use Rattle.test_select_laws.specs.Orders.{IsPackageReordered, IsReordered}
use Rattle.test_select_laws.proofs.AcceptedFacts.{HasNamesToo}
use Rattle.test_select_laws.proofs.OrderLinkFacts.{on_declared, on_there}
use Rattle.test_select_laws.proofs.OrderPathFacts.{AreEnds, IsPlaceOf, has_place, package_at, place_alone, reaches_there}

-- records in another order are so too by what says which features are on
pub by_features : (w v : Workspace) → IsReordered w v → features.IsReordered w v
by_features w v same = record {
  packages = (
    λ p listed. let (q, there, like) = same.packages.0 p listed in (q, there, like.itself),
    λ q there. let (p, listed, like) = same.packages.1 q there in (p, listed, like.itself),
  );
  links = same.links;
  members = same.members;
}

turn_package : (p q : Package) → IsPackageReordered p q → IsPackageReordered q p
turn_package p q h = record { itself = turned_package p q h.itself; name = sym h.name; targets = λ t. ((h.targets t).1, (h.targets t).0) }

pub turned : (w v : Workspace) → IsReordered w v → IsReordered v w
turned w v same =
    let back = kept_orders.turned w v (by_features w v same) in
    record {
      packages = turned_alike IsPackageReordered turn_package w.packages v.packages same.packages;
      links = back.links;
      members = back.members;
      groups = sym same.groups;
      default_filter = sym same.default_filter;
    }

-- a package of a context is told by its id and its name
abbrev id_and_name : Package → Text × Text
id_and_name p = (p.id, p.name)

abbrev named_target : Text → Target → List (Text × Text)
named_target name t = named_binary name t.name (binary_kind (id_of t.kind t.name))

-- rows as a graph, in no order
abbrev table_of : Workspace → List Link → TableValue
table_of w links = record { packages = w.packages; links = links; workspace = w.workspace; listing = [] }

module _ (w v : Workspace) (kept : AreKept w.packages w.links w.workspace) (other : AreKept v.packages v.links v.workspace) (same : IsReordered w v) where
  -- an id of a package of the one record is one of the other
  known_there : (p : Package) → Contains w.packages p → IsPackageId v.packages p.id
  known_there p listed =
      let (q, there, like) = same.packages.0 p listed in
      (there.0, q, there.1, there.2, sym like.itself.id)

  -- a link has its like between the same packages
  links_there : (l : Link) → Contains w.links l → (m : Link) × Contains v.links m × (l.from ≡ m.from) × (l.to ≡ m.to)
  links_there l listed = let (m, there, like) = same.links.0 l listed in (m, there, like.from, like.to)

  -- the like of a needed package is needed
  needed_there : (u : ℕ) (p q : Package) → IsNeeded (table_of w w.links) u → slice_get w.packages u ≡ Some p → Contains v.packages q → p.id ≡ q.id → (x : ℕ) × IsNeeded (table_of v v.links) x × (slice_get v.packages x ≡ Some q)
  needed_there u p q needed at there named =
      let (m, listed, is) = Contains-map_cases (λ (m : Member). place_among (ids_of w.packages) m.package_id) w.workspace.members needed.member needed.is_member in
      let member = (same.members m).0 listed in
      let known = All-contains (λ (x : Member). IsPackageId w.packages x.package_id) w.workspace.members m kept.members_known listed in
      let known_too = All-contains (λ (x : Member). IsPackageId v.packages x.package_id) v.workspace.members m other.members_known member in
      let start = place_among (ids_of v.packages) m.package_id in
      let starts : IsPlaceOf w.packages m.package_id needed.member = subst (IsPlaceOf w.packages m.package_id) is (has_place w.packages m.package_id known) in
      let ends = place_alone w.packages kept.ids_apart p u at in
      let (x, at_x, path) = reaches_there w.packages v.packages w.links v.links kept.ends_known other.ends_known links_there m.package_id p.id needed.member u start starts needed.path ends (has_place v.packages m.package_id known_too) in
      let stands : slice_get v.packages there.0 ≡ Some q = slice_get-get_or v.packages there.0 q there.1 ∙ ap (λ (y : Package). Some y) there.2 in
      let one : x ≡ there.0 = same_Some x there.0 (sym (subst (λ id. IsPlaceOf v.packages id x) named at_x) ∙ place_alone v.packages other.ids_apart q there.0 stands) in
      let is_needed : IsNeeded (table_of v v.links) x = record { member = start; is_member = Contains-map (λ (y : Member). place_among (ids_of v.packages) y.package_id) v.workspace.members m member; path = path } in
      (x, is_needed, subst (λ n. slice_get v.packages n ≡ Some q) (sym one) stands)

  module _ (cx dx : ContextValue) (of_cx : HasNamesOf w cx) (of_dx : HasNamesOf v dx) where
    -- the contexts are over the same packages
    rows_there : (row : Package) → Contains of_cx.needed.rows row → (q : Package) × Contains of_dx.needed.rows q × IsPackageReordered row q
    rows_there row among =
        let c = of_cx.declared in
        let d = of_dx.declared in
        let (u, needed, at) = (of_cx.needed.are_rows row).0 among in
        let at_row : slice_get w.packages u ≡ Some row = subst (λ (ps : List Package). slice_get ps u ≡ Some row) of_cx.is_declared.rows at in
        let (q, there, like) = same.packages.0 row (Contains-slice_get w.packages u row at_row) in
        let in_order = needed_too c (table_of w w.links) of_cx.is_declared.rows of_cx.is_declared.link_rows of_cx.is_declared.workspace_row u needed in
        let (x, needed_x, at_x) = needed_there u row q in_order at_row there like.itself.id in
        let needed_d = needed_too (table_of v v.links) d (sym of_dx.is_declared.rows) (sym of_dx.is_declared.link_rows) (sym of_dx.is_declared.workspace_row) x needed_x in
        let at_d : slice_get d.packages x ≡ Some q = subst (λ (ps : List Package). slice_get ps x ≡ Some q) (sym of_dx.is_declared.rows) at_x in
        (q, (of_dx.needed.are_rows q).1 (x, needed_d, at_d), like)

    packages_there : (p : Text × Text) → Contains cx.packages p → Contains dx.packages p
    packages_there p listed =
        let (row, among, is) = Contains-map_cases id_and_name of_cx.needed.rows p (subst (λ ps. Contains ps p) of_cx.needed.named listed) in
        let (q, inside, like) = rows_there row among in
        let called : id_and_name q ≡ p = ap (λ id. (id, q.name)) (sym like.itself.id) ∙ ap (λ n. (row.id, n)) (sym like.name) ∙ is in
        subst (λ ps. Contains ps p) (sym of_dx.needed.named) (subst (Contains (map id_and_name of_dx.needed.rows)) called (Contains-map id_and_name of_dx.needed.rows q inside))

    binaries_there : (b : Text × Text) → Contains cx.binaries b → Contains dx.binaries b
    binaries_there b listed =
        let (row, among, of_row) = Contains-flat_map_cases binaries_of of_cx.needed.rows b (subst (λ bs. Contains bs b) of_cx.needed.built listed) in
        let (q, inside, like) = rows_there row among in
        let (t, its, is) = Contains-flat_map_cases (named_target row.name) row.targets b of_row in
        let of_target = subst (λ name. Contains (named_target name t) b) like.name is in
        let of_q = Contains-flat_map (named_target q.name) q.targets t b ((like.targets t).0 its) of_target in
        subst (λ bs. Contains bs b) (sym of_dx.needed.built) (Contains-flat_map binaries_of of_dx.needed.rows q b inside of_q)

    features_there : (name : Text) → Contains cx.features name → Contains dx.features name
    features_there name listed =
        let (row, among, of_row) = Contains-flat_map_cases features_of of_cx.needed.rows name (subst (λ fs. Contains fs name) of_cx.needed.featured listed) in
        let (q, inside, like) = rows_there row among in
        let (f, its, is) = Contains-map_cases (λ (f : FeatureEntry). f.name) row.features name of_row in
        let (g, there, alike) = like.itself.features.0 f its in
        let of_q = subst (Contains (features_of q)) (sym alike.name ∙ is) (Contains-map (λ (f : FeatureEntry). f.name) q.features g there) in
        subst (λ fs. Contains fs name) (sym of_dx.needed.featured) (Contains-flat_map features_of of_dx.needed.rows q name inside of_q)

    pub names_there : HasNamesToo cx dx
    names_there = record { packages = packages_there; binaries = binaries_there; features = features_there }

  -- what leads on by some links leads on by their likes
  leads_over : (ls ms : List Link) → All (AreEnds w.packages) ls → All (AreEnds v.packages) ms → ((l : Link) → Contains ls l → (m : Link) × Contains ms m × (l.from ≡ m.from) × (l.to ≡ m.to)) → (g h : TableValue) → g.packages ≡ w.packages → g.links ≡ ls → h.packages ≡ v.packages → h.links ≡ ms → (a b : Text) → Leads g a b → Leads h a b
  leads_over ls ms ends others too g h rows links rows_too links_too a b leads =
      let here = leads_too g (table_of w ls) rows links a b leads in
      let (p, listed, is) = package_at w.packages a here.from here.is_from in
      let known = subst (IsPackageId v.packages) is (known_there p listed) in
      let start = place_among (ids_of v.packages) a in
      let starts = has_place v.packages a known in
      let (y, at_y, path) = reaches_there w.packages v.packages ls ms ends others too a b here.from here.to start here.is_from here.path here.is_to starts in
      leads_too (table_of v ms) h (sym rows_too) (sym links_too) a b (record { from = start; to = y; is_from = starts; is_to = at_y; path = path })

  -- what leads on in a scope leads on there in the other record
  pub followed_there : (scope : LinkScope) (on : List FeatureValue) (table : PlatformTable) (g h : TableValue) → IsFollowedIn scope w on table g → IsFollowedIn scope v on table h → (a b : Text) → Leads g a b → Leads h a b
  followed_there Declared on table g h p q =
      leads_over w.links v.links kept.ends_known other.ends_known links_there g h p.rows p.link_rows q.rows q.link_rows
  followed_there SwitchedOn on table g h (d, is_d, p) (e, is_e, q) =
      let too = on_there w v kept.ids_apart other.ids_apart (by_features w v same) d e is_d is_e on table in
      leads_over (links_on d on table) (links_on e on table) (ends_on w kept d is_d on table) (ends_on v other e is_e on table) too g h (p.rows ∙ is_d.rows) p.link_rows (q.rows ∙ is_e.rows) q.link_rows
    where
      ends_on : (u : Workspace) → AreKept u.packages u.links u.workspace → (c : TableValue) → IsDeclaredGraph u c → (on : List FeatureValue) (table : PlatformTable) → All (AreEnds u.packages) (links_on c on table)
      ends_on u rules c is_c on table = All-from_Contains (AreEnds u.packages) (links_on c on table) (λ k inside.
          let (l, listed, from, to) = on_declared c on table k inside in
          let ends = All-contains (AreEnds u.packages) u.links l rules.ends_known (subst (λ (ls : List Link). Contains ls l) is_c.link_rows listed) in
          (subst (IsPackageId u.packages) from ends.0, subst (IsPackageId u.packages) to ends.1))
