-- Contexts that are made of one record.
use Rattle.std.proofs.Common.{◌≡◌, ◌↔◌, ◌∙◌, ℕ, List, Contains, map, position, sym, subst, bytes_eq, slice_get, Some}
use Rattle.list_facts.proofs.Membership.{Contains-flat_map, Contains-flat_map_cases, Contains-map, Contains-map_cases}
use Rattle.numbered_graph.specs.Paths.{Reaches, any_link}
use Rattle.workspace_record.specs.Records.{Link, Member, Package, Text, Workspace, WorkspaceDetails}
use Rattle.feature_account.proofs.AccountFacts.{Contains-slice_get}
use Rattle.guppy_package_table.specs.Tables.{TableValue, ids_of, links_among, place_among}
use Rattle.guppy_package_graph.specs.Finding.{IsAt}
use Rattle.nextest_filtering.specs.Contexts.{ContextValue, Leads, binaries_of, features_of}
use Rattle.nextest_filtering.specs.SameFilters.{AreBytes, HasSamePackages}
use Rattle.test_select_checks.specs.Contexts.{HasNamesOf, IsNeeded}

-- graphs with the same packages and links
module _ (g h : TableValue) (packages : g.packages ≡ h.packages) (links : g.links ≡ h.links) where
  path_too : (a b : ℕ) → Reaches (links_among g.packages g.links) any_link a b → Reaches (links_among h.packages h.links) any_link a b
  path_too a b path =
      subst (λ (ls : List Link). Reaches (links_among h.packages ls) any_link a b) links
      (subst (λ (ps : List Package). Reaches (links_among ps g.links) any_link a b) packages path)

  at_too : (id : Text) (v : ℕ) → IsAt g id v → IsAt h id v
  at_too id v at = subst (λ (ps : List Package). position (bytes_eq id) (ids_of ps) ≡ Some v) packages at

  pub leads_too : (a b : Text) → Leads g a b → Leads h a b
  leads_too a b l = record { from = l.from; to = l.to; is_from = at_too a l.from l.is_from; is_to = at_too b l.to l.is_to; path = path_too l.from l.to l.path }

  pub needed_too : g.workspace ≡ h.workspace → (v : ℕ) → IsNeeded g v → IsNeeded h v
  needed_too workspace v n = record {
    member = n.member;
    is_member = subst (λ (w : WorkspaceDetails). Contains (map (λ (m : Member). place_among (ids_of h.packages) m.package_id) w.members) n.member) workspace
        (subst (λ (ps : List Package). Contains (map (λ (m : Member). place_among (ids_of ps) m.package_id) g.workspace.members) n.member) packages n.is_member);
    path = path_too n.member v n.path;
  }

-- the name of a package of the context is that of a package of the record
abbrev id_and_name : Package → Text × Text
id_and_name p = (p.id, p.name)

module _ (w : Workspace) (cx dx : ContextValue) (of_cx : HasNamesOf w cx) (of_dx : HasNamesOf w dx) where
  -- the same packages are needed
  rows_too : (row : Package) → Contains of_cx.needed.rows row → Contains of_dx.needed.rows row
  rows_too row among =
      let c = of_cx.declared in
      let d = of_dx.declared in
      let packages : c.packages ≡ d.packages = of_cx.is_declared.rows ∙ sym of_dx.is_declared.rows in
      let links : c.links ≡ d.links = of_cx.is_declared.link_rows ∙ sym of_dx.is_declared.link_rows in
      let workspace : c.workspace ≡ d.workspace = of_cx.is_declared.workspace_row ∙ sym of_dx.is_declared.workspace_row in
      let (v, needed, at) = (of_cx.needed.are_rows row).0 among in
      (of_dx.needed.are_rows row).1 (v, needed_too c d packages links workspace v needed, subst (λ (ps : List Package). slice_get ps v ≡ Some row) packages at)

  pub packages_too : (p : Text × Text) → Contains cx.packages p → Contains dx.packages p
  packages_too p listed =
      let (row, among, is) = Contains-map_cases id_and_name of_cx.needed.rows p (subst (λ ps. Contains ps p) of_cx.needed.named listed) in
      subst (λ ps. Contains ps p) (sym of_dx.needed.named) (subst (Contains (map id_and_name of_dx.needed.rows)) is (Contains-map id_and_name of_dx.needed.rows row (rows_too row among)))

  pub binaries_too : (b : Text × Text) → Contains cx.binaries b → Contains dx.binaries b
  binaries_too b listed =
      let (row, among, of_row) = Contains-flat_map_cases binaries_of of_cx.needed.rows b (subst (λ bs. Contains bs b) of_cx.needed.built listed) in
      subst (λ bs. Contains bs b) (sym of_dx.needed.built) (Contains-flat_map binaries_of of_dx.needed.rows row b (rows_too row among) of_row)

  pub features_too : (name : Text) → Contains cx.features name → Contains dx.features name
  features_too name listed =
      let (row, among, of_row) = Contains-flat_map_cases features_of of_cx.needed.rows name (subst (λ fs. Contains fs name) of_cx.needed.featured listed) in
      subst (λ fs. Contains fs name) (sym of_dx.needed.featured) (Contains-flat_map features_of of_dx.needed.rows row name (rows_too row among) of_row)

module _ (w : Workspace) (cx : ContextValue) (of_cx : HasNamesOf w cx) where
  -- where the names of the record's packages are bytes, those of the context are
  pub byte_packages : ((p : Package) → Contains w.packages p → AreBytes p.name) → (p : Text × Text) → Contains cx.packages p → AreBytes p.1
  byte_packages bytes p listed =
      let (row, among, is) = Contains-map_cases id_and_name of_cx.needed.rows p (subst (λ ps. Contains ps p) of_cx.needed.named listed) in
      let (v, needed, at) = (of_cx.needed.are_rows row).0 among in
      let inside : Contains w.packages row = subst (λ (ps : List Package). Contains ps row) of_cx.is_declared.rows (Contains-slice_get of_cx.declared.packages v row at) in
      subst (λ (x : Text × Text). AreBytes x.1) is (bytes row inside)

-- contexts of one record, whose graphs have the same rows and in which the same is on, have the same packages and paths
pub one_context : (w : Workspace) (cx dx : ContextValue) → HasNamesOf w cx → HasNamesOf w dx → cx.graph.packages ≡ dx.graph.packages → cx.graph.links ≡ dx.graph.links → ((f : Text × Text) → Contains cx.on f ↔ Contains dx.on f) → HasSamePackages cx dx
one_context w cx dx of_cx of_dx packages links on = record {
  packages = λ p. (packages_too w cx dx of_cx of_dx p, packages_too w dx cx of_dx of_cx p);
  leads = λ a b. (leads_too cx.graph dx.graph packages links a b, leads_too dx.graph cx.graph (sym packages) (sym links) a b);
  on = on;
}
