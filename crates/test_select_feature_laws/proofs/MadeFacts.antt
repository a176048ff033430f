-- Each case of what a record demands is demanded.
use Rattle.std.proofs.Common.{◌≡◌, ℕ, zero, suc, ◌+◌, cond, List, [], ◌∷◌, ◌++◌, flat_map, slice_get, Contains, Some, All, refl, sym, subst, ap, ◌∙◌, arith}
use Rattle.std.proofs.lemmas.Bool.{and_from}
use Rattle.std.proofs.lemmas.List.Elements.{All-contains}
use Rattle.std.proofs.lemmas.Slice.Eq.{bytes_eq-Decides}
use Rattle.std.specs.Str.{bytes_eq}
use Rattle.list_facts.proofs.Membership.{Contains-none, Contains-append_left, Contains-append_right, Contains-first, Contains-rest, Contains-map, Contains-filter, Contains-flat_map}
use Rattle.workspace_record.specs.Equality.{texts_decide}
use Rattle.workspace_record.specs.Records.{Text, FeatureEntry, Line, Link, Package}
use Rattle.workspace_record.specs.Features.{FeatureValue}
use Rattle.feature_account_rules.specs.IsEntry.{IsEntry}
use Rattle.feature_account_rules.specs.IsRule.{HasEntry}
use Rattle.feature_account_rules.proofs.EntryReading.{entry_unique}
use Rattle.guppy_feature_demands.specs.Demands.{DemandValue, FormValue, FeatureToBase, NamedFeature, NamedFeatureDepColon, StrongSlash, WeakSlash, DependenciesSection, base_demands, demands_of, dependency_demands, entry_demands, feature_demands, leads, leads_by, line_demands, line_start, line_targets, link_demands, package_demands, same_name, slash_demands}
use Rattle.workspace_record.specs.Entries.{EntryValue, OwnFeature, Dependency, Strong, Weak, entry_value}
use Rattle.guppy_feature_demands.specs.NamedRows.{same_name_equivalence}
use Rattle.guppy_feature_demands.specs.Nodes.{base_of, dep_of, first_of_each, is_node, named_of, nodes_of}
use Rattle.guppy_feature_demands.specs.Numbered.{is_named_link, lines_of, links_named, numbered, numbered_from}
use Rattle.guppy_feature_nodes.proofs.EdgeFacts.{first_of_each-among}
use Rattle.feature_account.proofs.AccountFacts.{Contains-slice_get}
use Rattle.test_select_feature_laws.specs.RecordGraphs.{HasDistinctFeatures}
use Rattle.test_select_feature_laws.proofs.DemandFacts.{IsDemand, IsPlaced, to_base, to_own, to_dependency, strong_dependency, strong_name, strong_line, weak_line, by_line}
use Rattle.test_select_feature_laws.proofs.FirstFacts.{first_for}
use Rattle.test_select_feature_laws.proofs.RecordFacts.{same_by_name}

-- what stands at a place is there with its number
numbered_from-has : {X : Type 0} (n : ℕ) (xs : List X) (k : ℕ) (x : X) → slice_get xs k ≡ Some x → Contains (numbered_from n xs) (n + k, x)
numbered_from-has n [] k x h = absurd (Contains-none x (Contains-slice_get [] k x h))
numbered_from-has n (y ∷ xs) zero x h =
    let same : y ≡ x = cc in
    let at : n ≡ n + 0 = omega arith in
    subst (λ m. Contains ((n, y) ∷ numbered_from (n + 1) xs) (m, x)) at (subst (λ z. Contains ((n, y) ∷ numbered_from (n + 1) xs) (n, z)) same (Contains-first (n, y) (numbered_from (n + 1) xs)))
numbered_from-has n (y ∷ xs) (suc k) x h =
    let at : (n + 1) + k ≡ n + suc k = omega arith in
    subst (λ m. Contains ((n, y) ∷ numbered_from (n + 1) xs) (m, x)) at (Contains-rest (n, y) (numbered_from (n + 1) xs) ((n + 1) + k, x) (numbered_from-has (n + 1) xs k x h))

numbered-has : {X : Type 0} (xs : List X) (k : ℕ) (x : X) → slice_get xs k ≡ Some x → Contains (numbered xs) (k, x)
numbered-has xs k x h = let at : 0 + k ≡ k = omega arith in subst (λ m. Contains (numbered xs) (m, x)) at (numbered_from-has 0 xs k x h)

module _ (packages : List Package) (links : List Link) (distinct : All HasDistinctFeatures packages) where
  abbrev nodes : List FeatureValue
  nodes = nodes_of packages

  abbrev entries : List DemandValue
  entries = flat_map (package_demands nodes (numbered links)) packages

  abbrev lines : List DemandValue
  lines = flat_map link_demands (numbered links)

  -- each feature of a package is the first of its name
  first_named : (p : Package) → Contains packages p → (f : FeatureEntry) → Contains p.features f → Contains (first_of_each same_name p.features) f
  first_named p listed f h =
      let (y, hy, same) = first_for same_name_equivalence p.features f h in
      subst (Contains (first_of_each same_name p.features)) (same_by_name (λ (e : FeatureEntry). e.name) p.features (All-contains HasDistinctFeatures packages p distinct listed).features y f (first_of_each-among same_name p.features y hy) h ((texts_decide y.name f.name).0 same)) hy

  -- what an entry demands is demanded
  of_entry : (p : Package) → Contains packages p → (name entry : Text) → HasEntry p name entry → (v : EntryValue) → IsEntry entry v → (d : DemandValue) → Contains (entry_demands nodes (numbered links) p.id (named_of p.id name) v) d → Contains (demands_of packages links) d
  of_entry p listed name entry has v reads d h =
      let (enables, named, he) = has in
      let f : FeatureEntry = record { name = name; enables = enables } in
      let here = subst (λ u. Contains (entry_demands nodes (numbered links) p.id (named_of p.id name) u) d) (entry_unique entry v reads) h in
      let of_feature = Contains-flat_map (λ e. entry_demands nodes (numbered links) p.id (named_of p.id name) (entry_value e)) enables entry d he here in
      let of_package = Contains-flat_map (feature_demands nodes (numbered links) p.id) (first_of_each same_name p.features) f d (first_named p listed f named) of_feature in
      Contains-append_right (base_demands nodes) (entries ++ lines) d (Contains-append_left entries lines d (Contains-flat_map (package_demands nodes (numbered links)) packages p d listed of_package))

  line_listed : (place : ℕ × ℕ) (link : Link) (line : Line) → IsPlaced links place link line → Contains (lines_of (place.0, link)) (place, line)
  line_listed place link line at = Contains-map (λ (l : ℕ × Line). ((place.0, l.0), l.1)) (numbered link.lines) (place.1, line) (numbered-has link.lines place.1 line at.line_at)

  -- so is what it demands by a line
  slashed : (form : FormValue) (f : FeatureValue) (x id name : Text) (place : ℕ × ℕ) (link : Link) (line : Line) → IsPlaced links place link line → link.from ≡ id → link.name ≡ name → Contains (flat_map (slash_demands form f x) (links_named (numbered links) id name)) (leads_by form f (named_of link.to x) place)
  slashed form f x id name place link line at from named =
      let d = leads_by form f (named_of link.to x) place in
      let is = and_from (bytes_eq id link.from) (bytes_eq name link.name) ((bytes_eq-Decides id link.from).1 (sym from)) ((bytes_eq-Decides name link.name).1 (sym named)) in
      Contains-flat_map (slash_demands form f x) (links_named (numbered links) id name) (place.0, link) d (Contains-filter (is_named_link id name) (numbered links) (place.0, link) (numbered-has links place.0 link at.link_at) is) (Contains-map (λ (l : (ℕ × ℕ) × Line). leads_by form f (named_of link.to x) l.0) (lines_of (place.0, link)) (place, line) (line_listed place link line at))

  abbrev strong_slashes : Package → Text → Text → Text → List DemandValue
  strong_slashes p name other x = flat_map (slash_demands (StrongSlash other) (named_of p.id name) x) (links_named (numbered links) p.id other)

  -- each case is demanded
  pub is_demanded : (d : DemandValue) → IsDemand packages links d → Contains (demands_of packages links) d
  is_demanded d (to_base {f = f} h) = Contains-append_left (base_demands nodes) (entries ++ lines) (leads FeatureToBase f (base_of f.package_id)) (Contains-map (λ (f : FeatureValue). leads FeatureToBase f (base_of f.package_id)) nodes f h)
  is_demanded d (to_own {p = p} {name = name} {entry = entry} {other = other} listed has reads) = of_entry p listed name entry has (OwnFeature other) reads (leads NamedFeature (named_of p.id name) (named_of p.id other)) (Contains-first _ [])
  is_demanded d (to_dependency {p = p} {name = name} {entry = entry} {other = other} listed has reads) = of_entry p listed name entry has (Dependency other) reads (leads NamedFeatureDepColon (named_of p.id name) (dep_of p.id other)) (Contains-first _ [])
  is_demanded d (strong_dependency {p = p} {name = name} {entry = entry} {other = other} {x = x} listed has reads) =
      let f = named_of p.id name in
      let e = leads NamedFeatureDepColon f (dep_of p.id other) in
      of_entry p listed name entry has (Strong other x) reads e (Contains-append_right (strong_slashes p name other x) (dependency_demands nodes p.id f other) e (Contains-first e (cond (is_node nodes (dep_of p.id other)) (leads NamedFeature f (named_of p.id other) ∷ []) [])))
  is_demanded d (strong_name {p = p} {name = name} {entry = entry} {other = other} {x = x} listed has reads there) =
      let f = named_of p.id name in
      let e = leads NamedFeature f (named_of p.id other) in
      of_entry p listed name entry has (Strong other x) reads e (Contains-append_right (strong_slashes p name other x) (dependency_demands nodes p.id f other) e (Contains-rest (leads NamedFeatureDepColon f (dep_of p.id other)) (cond (is_node nodes (dep_of p.id other)) (e ∷ []) []) e (subst (λ b. Contains (cond b (e ∷ []) []) e) (sym there) (Contains-first e []))))
  is_demanded d (strong_line {p = p} {name = name} {entry = entry} {other = other} {x = x} {place = place} {link = link} {line = line} listed has reads at from named) =
      let f = named_of p.id name in
      let e = leads_by (StrongSlash other) f (named_of link.to x) place in
      of_entry p listed name entry has (Strong other x) reads e (Contains-append_left (strong_slashes p name other x) (dependency_demands nodes p.id f other) e (slashed (StrongSlash other) f x p.id other place link line at from named))
  is_demanded d (weak_line {p = p} {name = name} {entry = entry} {other = other} {x = x} {place = place} {link = link} {line = line} listed has reads at from named) =
      of_entry p listed name entry has (Weak other x) reads (leads_by (WeakSlash other) (named_of p.id name) (named_of link.to x) place) (slashed (WeakSlash other) (named_of p.id name) x p.id other place link line at from named)
  is_demanded d (by_line {place = place} {link = link} {line = line} {f = f} at h) =
      let e = leads_by DependenciesSection (line_start link line) f place in
      let of_line = Contains-map (λ g. leads_by DependenciesSection (line_start link line) g place) (line_targets link line) f h in
      let of_link = Contains-flat_map (line_demands link) (lines_of (place.0, link)) (place, line) e (line_listed place link line at) of_line in
      Contains-append_right (base_demands nodes) (entries ++ lines) e (Contains-append_right entries lines e (Contains-flat_map link_demands (numbered links) (place.0, link) e (numbered-has links place.0 link at.link_at) of_link))
