-- Edges along which default features are told join features of one package.
use Rattle.std.proofs.Common.{◌≡◌, ◌≢◌, ◌↔◌, ℕ, ◌<◌, Bool, true, false, cond, ◌&&◌, ◌==◌, not, nat_lt, List, [], ◌∷◌, ◌++◌, AllPairs, Contains, length, get_or, map, flat_map, refl, sym, subst, ap, ◌∙◌, ⊎_elim}
use Rattle.std.proofs.lemmas.Bool.{false≢true}
use Rattle.std.proofs.lemmas.List.{get_or-map, length-map}
use Rattle.std.proofs.lemmas.List.Elements.{All-contains, Contains-get_or}
use Rattle.std.proofs.lemmas.Slice.Eq.{bytes_eq-Decides}
use Rattle.list_facts.proofs.Membership.{Contains-none, Contains-cons_cases, Contains-first, Contains-append_cases, Contains-filter, Contains-filter_cases, Contains-flat_map, Contains-map_cases, Contains-flat_map_cases}
use Rattle.list_facts.proofs.Quantifiers.{list_any-from_Contains}
use Rattle.numbered_graph.specs.declared.link.Link as joint
use Rattle.numbered_graph.specs.Links.{link_at}
use Rattle.numbered_graph.specs.Listings.{numbers_below}
use Rattle.numbered_graph.specs.Paths.{IsPath, Reaches}
use Rattle.numbered_graph.specs.Sets.{has}
use Rattle.numbered_graph.proofs.Numbers.{numbers-all, numbers-small}
use Rattle.workspace_record.specs.Records.{Text, Package, Link}
use Rattle.workspace_record.specs.Features.{Base, Named, Dep, FeatureValue, LabelValue, feature_eq, features_decide}
use Rattle.workspace_record.specs.Entries.{EntryValue, OwnFeature, Dependency, Strong, Weak, entry_value}
use Rattle.guppy_feature_demands.specs.Numbered.{numbered, lines_of, links_named}
use Rattle.guppy_feature_demands.specs.Nodes.{base_of, dep_of, named_of, features_of, first_of_each, is_node, nodes_of, number_of}
use Rattle.guppy_feature_demands.specs.Demands.{DemandValue, FormValue, NumberedValue, NamedFeature, NamedFeatureDepColon, StrongSlash, WeakSlash, DependenciesSection, FeatureToBase, leads, leads_by, base_demands, slash_demands, dependency_demands, entry_demands, feature_demands, package_demands, same_name, line_start, line_targets, line_demands, link_demands, demands_of, is_between_nodes, with_numbers}
use Rattle.guppy_feature_nodes.specs.GraphEdges.{AreEdges, EdgeValue, edge_at, edge_ends, edge_form, edge_value, ends_of}
use Rattle.guppy_feature_nodes.specs.Graphs.{FeatureGraphValue, IsDefault, IsFeatureGraph, feature_at}
use Rattle.guppy_feature_nodes.specs.Orders.{IsDefaultAmong, default_name, default_number, default_starts, is_naming, naming_edges, starts_by, starts_defaults}
use Rattle.guppy_feature_nodes.proofs.DistinctFacts.{at_number, first_of_each-has, node_known, nodes_differ, number_at, number_known}
use Rattle.guppy_feature_nodes.proofs.EdgeFacts.{below, both, head_kept, kept_between}
use Rattle.guppy_feature_nodes.proofs.GraphFacts.{edge_within}
use Rattle.guppy_feature_nodes.proofs.NodeFacts.{node_package}

-- demands of this form are those of edges along which default features are told
abbrev pub names : FormValue → Bool
names FeatureToBase = true
names NamedFeature = true
names NamedFeatureDepColon = false
names (StrongSlash name) = false
names (WeakSlash name) = false
names DependenciesSection = false

-- such a demand leads from a feature of a package to one of the same
abbrev pub IsOwn : DemandValue → Type 0
IsOwn d = names d.form ≡ true → d.from.package_id ≡ d.to.package_id

-- all of these demands do
abbrev AreOwn : List DemandValue → Type 0
AreOwn ds = (d : DemandValue) → Contains ds d → IsOwn d

none_at_all : AreOwn []
none_at_all d h = absurd (Contains-none d h)

and_these : (d : DemandValue) (ds : List DemandValue) → IsOwn d → AreOwn ds → AreOwn (d ∷ ds)
and_these d ds first rest e h = ⊎_elim (λ k. subst IsOwn k first) (λ r. rest e r) (Contains-cons_cases d ds e h)

both_parts : (ds es : List DemandValue) → AreOwn ds → AreOwn es → AreOwn (ds ++ es)
both_parts ds es first rest e h = ⊎_elim (λ k. first e k) (λ k. rest e k) (Contains-append_cases ds es e h)

each_of : {X : Type 0} (f : X → DemandValue) (xs : List X) → ((x : X) → IsOwn (f x)) → AreOwn (map f xs)
each_of f xs each d h = let found = Contains-map_cases f xs d h in subst IsOwn found.2 (each found.0)

all_of : {X : Type 0} (f : X → List DemandValue) (xs : List X) → ((x : X) → AreOwn (f x)) → AreOwn (flat_map f xs)
all_of f xs each d h = let found = Contains-flat_map_cases f xs d h in each found.0 d found.2

no_name : {A : Type 0} → false ≡ true → A
no_name h = absurd (false≢true h)

slash_own : (name x : Text) (f : FeatureValue) (links : List (ℕ × Link)) → AreOwn (flat_map (slash_demands (StrongSlash name) f x) links)
slash_own name x f links = all_of (slash_demands (StrongSlash name) f x) links (λ link. each_of (λ line. leads_by (StrongSlash name) f (named_of link.1.to x) line.0) (lines_of link) (λ line h. no_name h))

weak_own : (name x : Text) (f : FeatureValue) (links : List (ℕ × Link)) → AreOwn (flat_map (slash_demands (WeakSlash name) f x) links)
weak_own name x f links = all_of (slash_demands (WeakSlash name) f x) links (λ link. each_of (λ line. leads_by (WeakSlash name) f (named_of link.1.to x) line.0) (lines_of link) (λ line h. no_name h))

module _ (nodes : List FeatureValue) (links : List (ℕ × Link)) (id own : Text) where
  abbrev f : FeatureValue
  f = named_of id own

  dependency_own : (name : Text) → AreOwn (dependency_demands nodes id f name)
  dependency_own name =
      and_these (leads NamedFeatureDepColon f (dep_of id name)) (cond (is_node nodes (dep_of id name)) (leads NamedFeature f (named_of id name) ∷ []) []) (λ h. no_name h) (by (is_node nodes (dep_of id name)))
    where
      by : (b : Bool) → AreOwn (cond b (leads NamedFeature f (named_of id name) ∷ []) [])
      by true = and_these (leads NamedFeature f (named_of id name)) [] (λ h. refl) none_at_all
      by false = none_at_all

  entry_own : (e : EntryValue) → AreOwn (entry_demands nodes links id f e)
  entry_own (OwnFeature name) = and_these (leads NamedFeature f (named_of id name)) [] (λ h. refl) none_at_all
  entry_own (Dependency name) = and_these (leads NamedFeatureDepColon f (dep_of id name)) [] (λ h. no_name h) none_at_all
  entry_own (Strong name x) = both_parts (flat_map (slash_demands (StrongSlash name) f x) (links_named links id name)) (dependency_demands nodes id f name) (slash_own name x f (links_named links id name)) (dependency_own name)
  entry_own (Weak name x) = weak_own name x f (links_named links id name)

package_own : (nodes : List FeatureValue) (links : List (ℕ × Link)) (p : Package) → AreOwn (package_demands nodes links p)
package_own nodes links p = all_of (feature_demands nodes links p.id) (first_of_each same_name p.features) (λ f. all_of (λ e. entry_demands nodes links p.id (named_of p.id f.name) (entry_value e)) f.enables (λ e. entry_own nodes links p.id f.name (entry_value e)))

link_own : (link : ℕ × Link) → AreOwn (link_demands link)
link_own link = all_of (line_demands link.1) (lines_of link) (λ line. each_of (λ g. leads_by DependenciesSection (line_start link.1 line.1) g line.0) (line_targets link.1 line.1) (λ g h. no_name h))

-- what the rows demand by name stays in a package
pub demands_own : (packages : List Package) (links : List Link) → AreOwn (demands_of packages links)
demands_own packages links =
    let nodes = nodes_of packages in
    let entries = flat_map (package_demands nodes (numbered links)) packages in
    let lines = flat_map link_demands (numbered links) in
    both_parts (base_demands nodes) (entries ++ lines) (each_of (λ f. leads FeatureToBase f (base_of f.package_id)) nodes (λ f h. refl))
    (both_parts entries lines (all_of (package_demands nodes (numbered links)) packages (package_own nodes (numbered links))) (all_of link_demands (numbered links) link_own))

same_test : (nodes : List FeatureValue) (from : ℕ) (form : FormValue) → names form ≡ is_naming (edge_form nodes from form)
same_test nodes from FeatureToBase = refl
same_test nodes from NamedFeature = refl
same_test nodes from NamedFeatureDepColon = refl
same_test nodes from (StrongSlash name) = refl
same_test nodes from (WeakSlash name) = refl
same_test nodes from DependenciesSection = refl

-- the id of a node's package
abbrev id_in : List FeatureValue → ℕ → Text
id_in nodes v = (get_or nodes v (base_of [])).package_id

-- an edge along which default features are told joins nodes of one package
edge_own : (packages : List Package) (links : List Link) (edges : List EdgeValue) → AreEdges packages links edges → (e : EdgeValue) → Contains edges e → is_naming e.form ≡ true → id_in (nodes_of packages) e.from ≡ id_in (nodes_of packages) e.to
edge_own packages links edges are e h naming =
    let nodes = nodes_of packages in
    let found = Contains-map_cases (edge_value nodes) are.joined e (subst (λ es. Contains es e) are.values h) in
    let head = found.0.head in
    let kept = head_kept packages links are.joined are.joins found.0 found.1 in
    let made = Contains-map_cases (with_numbers nodes) (demands_of packages links) head (Contains-filter_cases (is_between_nodes (length nodes)) (map (with_numbers nodes) (demands_of packages links)) head kept).0 in
    let d = made.0 in
    let is : names d.form ≡ true = ap (λ (x : NumberedValue). names x.form) made.2 ∙ same_test nodes head.from head.form ∙ ap (λ (x : EdgeValue). is_naming x.form) found.2 ∙ naming in
    let own : d.from.package_id ≡ d.to.package_id = demands_own packages links d made.1 is in
    let between = both (nat_lt head.from (length nodes) && nat_lt head.to (length nodes)) (not (head.from == head.to)) (kept_between packages links head kept) in
    let ends = both (nat_lt head.from (length nodes)) (nat_lt head.to (length nodes)) between.0 in
    let from : number_of nodes d.from ≡ head.from = ap (λ (x : NumberedValue). x.from) made.2 in
    let to : number_of nodes d.to ≡ head.to = ap (λ (x : NumberedValue). x.to) made.2 in
    let at_from = at_number nodes d.from (subst (λ n. n < length nodes) (sym from) (below head.from (length nodes) ends.0)) in
    let at_to = at_number nodes d.to (subst (λ n. n < length nodes) (sym to) (below head.to (length nodes) ends.1)) in
    ap (id_in nodes) (sym (from ∙ ap (λ (x : EdgeValue). x.from) found.2)) ∙ ap (λ (f : FeatureValue). f.package_id) at_from ∙ own ∙ sym (ap (λ (f : FeatureValue). f.package_id) at_to) ∙ ap (id_in nodes) (to ∙ ap (λ (x : EdgeValue). x.to) found.2)

module _ (g : FeatureGraphValue) (built : IsFeatureGraph g) where
  abbrev id_of : ℕ → Text
  id_of v = (feature_at g v).package_id

  abbrev links : List joint.Link
  links = edge_ends g.edges

  abbrev naming : ℕ → Bool
  naming = has (naming_edges g.edges)

  link_is : (j : ℕ) → j < length links → link_at links j ≡ ends_of (edge_at g.edges j)
  link_is j lt = get_or-map ends_of g.edges j _ _ (subst (λ n. j < n) (length-map g.edges ends_of) lt)

  joined_own : (j : ℕ) → j < length links → naming j ≡ true → id_of (link_at links j).from ≡ id_of (link_at links j).to
  joined_own j lt ok =
      let small : j < length g.edges = subst (λ n. j < n) (length-map g.edges ends_of) lt in
      let e = edge_at g.edges j in
      let is : is_naming e.form ≡ true = sym (get_or-map (λ (x : EdgeValue). is_naming x.form) g.edges j _ false small) ∙ ok in
      let own : id_of e.from ≡ id_of e.to = subst (λ (ns : List FeatureValue). id_in ns e.from ≡ id_in ns e.to) (sym built.nodes) (edge_own g.rows.packages g.rows.links g.edges built.edges e (Contains-get_or g.edges j _ small) is) in
      subst (λ (l : joint.Link). id_of l.from ≡ id_of l.to) (sym (link_is j lt)) own

  path_own : (a : ℕ) (js : List ℕ) (b : ℕ) → IsPath links naming a js b → id_of a ≡ id_of b
  path_own a [] b h = ap id_of h
  path_own a (j ∷ js) b (lt, ok, from, rest) = ap id_of (sym from) ∙ joined_own j lt ok ∙ path_own (link_at links j).to js b rest

  path_within : (a : ℕ) (js : List ℕ) (b : ℕ) → a < length g.nodes → IsPath links naming a js b → b < length g.nodes
  path_within a [] b small h = subst (λ n. n < length g.nodes) h small
  path_within a (j ∷ js) b small (lt, ok, from, rest) =
      path_within (link_at links j).to js b (subst (λ (l : joint.Link). l.to < length g.nodes) (sym (link_is j lt)) (edge_within g built j (subst (λ n. j < n) (length-map g.edges ends_of) lt)).to) rest

  differ : AllPairs (λ x y. x ≢ y) g.nodes
  differ = subst (AllPairs (λ x y. x ≢ y)) (sym built.nodes) (nodes_differ g.rows.packages)

  abbrev default_of : Text → FeatureValue
  default_of id = named_of id default_name

  number_where : (id : Text) (b : Bool) → is_node g.nodes (default_of id) ≡ b → default_number g.nodes id ≡ cond b (number_of g.nodes (default_of id)) (number_of g.nodes (base_of id))
  number_where id b e = ap (λ c. cond c (number_of g.nodes (default_of id)) (number_of g.nodes (base_of id))) e

  not_true : (b : Bool) → not b ≡ true → b ≡ false
  not_true true e = sym e
  not_true false e = refl

  -- a node from which default features are told is that of its package
  start_is : (s : ℕ) → s < length g.nodes → starts_defaults g.nodes (feature_at g s) ≡ true → default_number g.nodes (id_of s) ≡ s
  start_is s lt starts = by (feature_at g s).label refl starts
    where
      at_s : number_of g.nodes (feature_at g s) ≡ s
      at_s = number_at g.nodes differ s lt

      is_label : (l : LabelValue) → (feature_at g s).label ≡ l → record { package_id = id_of s; label = l } ≡ feature_at g s
      is_label l e = λ i. record { package_id = id_of s; label = sym e i }

      by : (l : LabelValue) → (feature_at g s).label ≡ l → starts_by g.nodes (id_of s) (feature_at g s).label ≡ true → default_number g.nodes (id_of s) ≡ s
      by Base e h =
          number_where (id_of s) false (not_true _ (ap (starts_by g.nodes (id_of s)) (sym e) ∙ h)) ∙ ap (number_of g.nodes) (is_label Base e) ∙ at_s
      by (Named name) e h =
          let called : name ≡ default_name = (bytes_eq-Decides name default_name).0 (ap (starts_by g.nodes (id_of s)) (sym e) ∙ h) in
          let here : default_of (id_of s) ≡ feature_at g s = ap (named_of (id_of s)) (sym called) ∙ is_label (Named name) e in
          let there = list_any-from_Contains (feature_eq (default_of (id_of s))) g.nodes (feature_at g s) (Contains-get_or g.nodes s (base_of []) lt) ((features_decide (default_of (id_of s)) (feature_at g s)).1 here) in
          number_where (id_of s) true there ∙ ap (number_of g.nodes) here ∙ at_s
      by (Dep name) e h = absurd (false≢true (ap (starts_by g.nodes (id_of s)) (sym e) ∙ h))

  base_there : (v : ℕ) → v < length g.nodes → Contains g.nodes (base_of (id_of v))
  base_there v lt =
      let known = node_package g.rows.packages (feature_at g v) (subst (λ ns. Contains ns (feature_at g v)) built.nodes (Contains-get_or g.nodes v (base_of []) lt)) in
      let p = Contains-map_cases (λ (q : Package). q.id) g.rows.packages (id_of v) known in
      let own : Contains (features_of p.0) (base_of (id_of v)) = subst (λ id. Contains (features_of p.0) (base_of id)) p.2 (Contains-first (base_of p.0.id) _) in
      subst (λ ns. Contains ns (base_of (id_of v))) (sym built.nodes) (first_of_each-has feature_eq features_decide (flat_map features_of g.rows.packages) (base_of (id_of v)) (Contains-flat_map features_of g.rows.packages p.0 (base_of (id_of v)) p.1 own))

  -- of a package with a node, default features are told from a node
  start_there : (v : ℕ) → v < length g.nodes → Contains (default_starts g.nodes) (default_number g.nodes (id_of v))
  start_there v lt = by (is_node g.nodes (default_of (id_of v))) refl
    where
      starts : FeatureValue → Bool
      starts = starts_defaults g.nodes

      among : (f : FeatureValue) → number_of g.nodes f < length g.nodes → starts f ≡ true → Contains (default_starts g.nodes) (number_of g.nodes f)
      among f small h =
          Contains-filter (λ n. starts (get_or g.nodes n (base_of []))) (numbers_below (length g.nodes)) (number_of g.nodes f) (numbers-all (length g.nodes) (number_of g.nodes f) small) (ap starts (at_number g.nodes f small) ∙ h)

      by : (b : Bool) → is_node g.nodes (default_of (id_of v)) ≡ b → Contains (default_starts g.nodes) (default_number g.nodes (id_of v))
      by true e =
          subst (Contains (default_starts g.nodes)) (sym (number_where (id_of v) true e)) (among (default_of (id_of v)) (node_known g.nodes (default_of (id_of v)) e) ((bytes_eq-Decides default_name default_name).1 refl))
      by false e =
          subst (Contains (default_starts g.nodes)) (sym (number_where (id_of v) false e)) (among (base_of (id_of v)) (number_known g.nodes (base_of (id_of v)) (base_there v lt)) (ap not e))

  -- what default features lead to are default features of their own packages
  pub own_default : (v : ℕ) → IsDefaultAmong g.nodes g.edges v ↔ IsDefault g v
  own_default v = (there, back)
    where
      there : IsDefaultAmong g.nodes g.edges v → IsDefault g v
      there h =
          let kept = Contains-filter_cases (λ n. starts_defaults g.nodes (get_or g.nodes n (base_of []))) (numbers_below (length g.nodes)) h.start h.among in
          let small : h.start < length g.nodes = All-contains (λ n. n < length g.nodes) (numbers_below (length g.nodes)) h.start (numbers-small (length g.nodes)) kept.0 in
          let is : h.start ≡ default_number g.nodes (id_of v) = sym (start_is h.start small kept.1) ∙ ap (default_number g.nodes) (path_own h.start h.leads.path v h.leads.leads) in
          record { within = path_within h.start h.leads.path v small h.leads.leads; leads = subst (λ s. Reaches links naming s v) is h.leads }

      back : IsDefault g v → IsDefaultAmong g.nodes g.edges v
      back h = record { start = default_number g.nodes (id_of v); among = start_there v h.within; leads = h.leads }
