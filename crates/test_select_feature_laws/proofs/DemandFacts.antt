-- What a record demands, one case for each way in which one feature leads to another.
use Rattle.std.proofs.Common.{◌≡◌, ℕ, Bool, true, false, cond, List, [], ◌∷◌, ◌++◌, flat_map, slice_get, Contains, Some, refl, sym, subst, ⊎_elim}
use Rattle.std.proofs.lemmas.Bool.{and_parts}
use Rattle.std.proofs.lemmas.Slice.Eq.{bytes_eq-Decides}
use Rattle.std.specs.Str.{bytes_eq}
use Rattle.list_facts.proofs.Membership.{Contains-none, Contains-append_cases, Contains-cons_cases, Contains-map_cases, Contains-filter_cases, Contains-flat_map_cases}
use Rattle.workspace_record.specs.Records.{Text, Line, Link, Package}
use Rattle.workspace_record.specs.Features.{FeatureValue}
use Rattle.feature_account_rules.specs.IsEntry.{IsEntry}
use Rattle.feature_account_rules.proofs.EntryReading.{entry_reads}
use Rattle.feature_account_rules.specs.IsRule.{HasEntry}
use Rattle.guppy_feature_demands.specs.Demands.{DemandValue, FormValue, FeatureToBase, NamedFeature, NamedFeatureDepColon, StrongSlash, WeakSlash, DependenciesSection, base_demands, demands_of, dependency_demands, entry_demands, feature_demands, leads, leads_by, line_demands, line_start, line_targets, link_demands, package_demands, same_name, slash_demands}
use Rattle.workspace_record.specs.Entries.{EntryValue, OwnFeature, Dependency, Strong, Weak, entry_value}
use Rattle.guppy_feature_demands.specs.Nodes.{base_of, dep_of, first_of_each, is_node, named_of, nodes_of}
use Rattle.guppy_feature_demands.specs.Numbered.{is_named_link, lines_of, links_named, numbered}
use Rattle.guppy_feature_nodes.proofs.EdgeFacts.{first_of_each-among}
use Rattle.guppy_feature_nodes.proofs.LineFacts.{numbered-at}

-- the place names the line of the link
pub record IsPlaced (links : List Link) (place : ℕ × ℕ) (link : Link) (line : Line) : Type 0 where
  pub link_at : slice_get links place.0 ≡ Some link
  pub line_at : slice_get link.lines place.1 ≡ Some line

pub data IsDemand (packages : List Package) (links : List Link) : DemandValue → Type 0 where
  -- a feature leads to its package
  to_base : {f : FeatureValue} → Contains (nodes_of packages) f → IsDemand packages links (leads FeatureToBase f (base_of f.package_id))
  -- an entry leads to a feature of the package, or to an optional dependency
  to_own : {p : Package} {name entry other : Text} → Contains packages p → HasEntry p name entry → IsEntry entry (OwnFeature other) → IsDemand packages links (leads NamedFeature (named_of p.id name) (named_of p.id other))
  to_dependency : {p : Package} {name entry other : Text} → Contains packages p → HasEntry p name entry → IsEntry entry (Dependency other) → IsDemand packages links (leads NamedFeatureDepColon (named_of p.id name) (dep_of p.id other))
  -- a strong entry leads to an optional dependency, and where there is one to the feature of its name
  strong_dependency : {p : Package} {name entry other x : Text} → Contains packages p → HasEntry p name entry → IsEntry entry (Strong other x) → IsDemand packages links (leads NamedFeatureDepColon (named_of p.id name) (dep_of p.id other))
  strong_name : {p : Package} {name entry other x : Text} → Contains packages p → HasEntry p name entry → IsEntry entry (Strong other x) → is_node (nodes_of packages) (dep_of p.id other) ≡ true → IsDemand packages links (leads NamedFeature (named_of p.id name) (named_of p.id other))
  -- strong and weak entries lead by lines
  strong_line : {p : Package} {name entry other x : Text} {place : ℕ × ℕ} {link : Link} {line : Line} → Contains packages p → HasEntry p name entry → IsEntry entry (Strong other x) → IsPlaced links place link line → link.from ≡ p.id → link.name ≡ other → IsDemand packages links (leads_by (StrongSlash other) (named_of p.id name) (named_of link.to x) place)
  weak_line : {p : Package} {name entry other x : Text} {place : ℕ × ℕ} {link : Link} {line : Line} → Contains packages p → HasEntry p name entry → IsEntry entry (Weak other x) → IsPlaced links place link line → link.from ≡ p.id → link.name ≡ other → IsDemand packages links (leads_by (WeakSlash other) (named_of p.id name) (named_of link.to x) place)
  -- a line leads to what it asks for
  by_line : {place : ℕ × ℕ} {link : Link} {line : Line} {f : FeatureValue} → IsPlaced links place link line → Contains (line_targets link line) f → IsDemand packages links (leads_by DependenciesSection (line_start link line) f place)

-- the only element
only : {X : Type 0} (x y : X) → Contains (x ∷ []) y → x ≡ y
only x y h = ⊎_elim (λ e. e) (λ r. absurd (Contains-none y r)) (Contains-cons_cases x [] y h)

module _ (packages : List Package) (links : List Link) where
  abbrev nodes : List FeatureValue
  nodes = nodes_of packages

  abbrev Is : DemandValue → Type 0
  Is = IsDemand packages links

  -- a numbered link's line stands at its place
  placed : (link : ℕ × Link) → Contains (numbered links) link → (line : (ℕ × ℕ) × Line) → Contains (lines_of link) line → IsPlaced links line.0 link.1 line.1
  placed link within line h =
      let found = Contains-map_cases (λ (l : ℕ × Line). ((link.0, l.0), l.1)) (numbered link.1.lines) line h in
      subst (λ (x : (ℕ × ℕ) × Line). IsPlaced links x.0 link.1 x.1) found.2 (record { link_at = numbered-at links link within; line_at = numbered-at link.1.lines found.0 found.1 })

  -- what an entry with a slash demands is demanded by a line of a link of its name
  slash_cases : (form : FormValue) (f : FeatureValue) (x id name : Text) (d : DemandValue) → ((place : ℕ × ℕ) (link : Link) (line : Line) → IsPlaced links place link line → link.from ≡ id → link.name ≡ name → Is (leads_by form f (named_of link.to x) place)) → Contains (flat_map (slash_demands form f x) (links_named (numbered links) id name)) d → Is d
  slash_cases form f x id name d each h =
      let (link, named, hd) = Contains-flat_map_cases (slash_demands form f x) (links_named (numbered links) id name) d h in
      let kept = Contains-filter_cases (is_named_link id name) (numbered links) link named in
      let both = and_parts (bytes_eq id link.1.from) (bytes_eq name link.1.name) kept.1 in
      let (line, hl, is) = Contains-map_cases (λ (l : (ℕ × ℕ) × Line). leads_by form f (named_of link.1.to x) l.0) (lines_of link) d hd in
      subst Is is (each line.0 link.1 line.1 (placed link kept.0 line hl) (sym ((bytes_eq-Decides id link.1.from).0 both.0)) (sym ((bytes_eq-Decides name link.1.name).0 both.1)))

  module _ (p : Package) (listed : Contains packages p) (name entry : Text) (has : HasEntry p name entry) where
    abbrev f : FeatureValue
    f = named_of p.id name

    -- a strong entry demands what it leads to always
    dependency_cases : (other x : Text) → IsEntry entry (Strong other x) → (d : DemandValue) → Contains (dependency_demands nodes p.id f other) d → Is d
    dependency_cases other x reads d h =
        ⊎_elim (λ e. subst Is e (strong_dependency listed has reads)) (by (is_node nodes (dep_of p.id other)) refl) (Contains-cons_cases (leads NamedFeatureDepColon f (dep_of p.id other)) (cond (is_node nodes (dep_of p.id other)) (leads NamedFeature f (named_of p.id other) ∷ []) []) d h)
      where
        by : (b : Bool) → is_node nodes (dep_of p.id other) ≡ b → Contains (cond b (leads NamedFeature f (named_of p.id other) ∷ []) []) d → Is d
        by true e k = subst Is (only (leads NamedFeature f (named_of p.id other)) d k) (strong_name listed has reads e)
        by false e k = absurd (Contains-none d k)

    -- an entry demands what it leads to
    entry_cases : (v : EntryValue) → IsEntry entry v → (d : DemandValue) → Contains (entry_demands nodes (numbered links) p.id f v) d → Is d
    entry_cases (OwnFeature other) reads d h = subst Is (only (leads NamedFeature f (named_of p.id other)) d h) (to_own listed has reads)
    entry_cases (Dependency other) reads d h = subst Is (only (leads NamedFeatureDepColon f (dep_of p.id other)) d h) (to_dependency listed has reads)
    entry_cases (Strong other x) reads d h =
        ⊎_elim (slash_cases (StrongSlash other) f x p.id other d (λ place link line at from named. strong_line listed has reads at from named)) (dependency_cases other x reads d) (Contains-append_cases (flat_map (slash_demands (StrongSlash other) f x) (links_named (numbered links) p.id other)) (dependency_demands nodes p.id f other) d h)
    entry_cases (Weak other x) reads d h = slash_cases (WeakSlash other) f x p.id other d (λ place link line at from named. weak_line listed has reads at from named) h

  package_cases : (p : Package) → Contains packages p → (d : DemandValue) → Contains (package_demands nodes (numbered links) p) d → Is d
  package_cases p listed d h =
      let (f, hf, hd) = Contains-flat_map_cases (feature_demands nodes (numbered links) p.id) (first_of_each same_name p.features) d h in
      let (e, he, hv) = Contains-flat_map_cases (λ e. entry_demands nodes (numbered links) p.id (named_of p.id f.name) (entry_value e)) f.enables d hd in
      entry_cases p listed f.name e (f.enables, first_of_each-among same_name p.features f hf, he) (entry_value e) (entry_reads e) d hv

  link_cases : (link : ℕ × Link) → Contains (numbered links) link → (d : DemandValue) → Contains (link_demands link) d → Is d
  link_cases link within d h =
      let (line, hl, hd) = Contains-flat_map_cases (line_demands link.1) (lines_of link) d h in
      let (f, hf, is) = Contains-map_cases (λ g. leads_by DependenciesSection (line_start link.1 line.1) g line.0) (line_targets link.1 line.1) d hd in
      subst Is is (by_line (placed link within line hl) hf)

  -- each demand is one of the cases
  pub demand_cases : (d : DemandValue) → Contains (demands_of packages links) d → IsDemand packages links d
  demand_cases d h =
      let entries = flat_map (package_demands nodes (numbered links)) packages in
      let lines = flat_map link_demands (numbered links) in
      ⊎_elim (λ b. let found = Contains-map_cases (λ (f : FeatureValue). leads FeatureToBase f (base_of f.package_id)) nodes d b in subst Is found.2 (to_base found.1)) (λ r. ⊎_elim
      (λ e. let found = Contains-flat_map_cases (package_demands nodes (numbered links)) packages d e in package_cases found.0 found.1 d found.2)
      (λ l. let found = Contains-flat_map_cases link_demands (numbered links) d l in link_cases found.0 found.1 d found.2)
      (Contains-append_cases entries lines d r))
      (Contains-append_cases (base_demands nodes) (entries ++ lines) d h)
