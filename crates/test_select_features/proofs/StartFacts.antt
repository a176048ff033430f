-- What a filter takes of the features of members, and what the choice switches on by itself, lead to the same.
use Rattle.std.proofs.Common.{◌≡◌, ◌≢◌, ◌⊎◌, ⊎_elim, inl, inr, ℕ, ◌<◌, Bool, true, false, cond, List, [], ◌∷◌, AllPairs, All, Contains, IsTrue, Option, Some, None, flat_map, get_or, length, map, position, refl, sym, subst, ap, ◌∙◌, arith, true≢false}
use Rattle.std.specs.List.{list_any, position_or_len}
use Rattle.std.specs.Option.{option_map_or}
use Rattle.std.specs.Str.{bytes_eq}
use Rattle.std.proofs.lemmas.Bool.{and_parts, false≢true}
use Rattle.std.proofs.lemmas.List.{get_or-map, length-map}
use Rattle.std.proofs.lemmas.List.Elements.{All-contains, Contains-get_or}
use Rattle.std.proofs.lemmas.List.Quantifiers.{position-Some}
use Rattle.std.proofs.lemmas.Slice.Eq.{bytes_eq-Decides}
use Rattle.list_facts.proofs.Lists.{map-map}
use Rattle.list_facts.proofs.Membership.{Contains-append_left, Contains-append_right, Contains-append_cases, Contains-cons_cases, Contains-first, Contains-flat_map, Contains-flat_map_cases, Contains-map, Contains-map_cases, Contains-none, Contains-rest}
use Rattle.list_facts.proofs.Quantifiers.{list_any-from_Contains, list_any_cases}
use Rattle.numbered_graph.specs.declared.direction.Direction.TheVariants.{Forward}
use Rattle.numbered_graph.specs.Links.{far_at, link_at, near_at}
use Rattle.numbered_graph.specs.Paths.{IsPath}
use Rattle.numbered_graph.specs.Sets.{has}
use Rattle.numbered_offers.specs.declared.edge.Edge.{Edge}
use Rattle.numbered_offers.specs.declared.offer.Offer.{Offer}
use Rattle.numbered_offers.specs.Edges as offers
use Rattle.numbered_offers.specs.Least.{IsClosed as AreEdgesClosed}
use Rattle.workspace_record.specs.Records.{FeatureEntry, Link, Member, Package, Text, Workspace, WorkspaceDetails}
use Rattle.workspace_record.specs.Choices.{Choice}
use Rattle.workspace_record.specs.Features.{FeatureValue, LabelValue, Base, Named, Dep, feature_eq, features_decide}
use Rattle.workspace_record.specs.declared.kinds.Standard.{Standard}
use Rattle.workspace_record.specs.declared.kinds.Standard.TheVariants as chosen
use Rattle.feature_account_rules.specs.Closed.{FeatureSet}
use Rattle.feature_account_rules.specs.IsRule.{HasFeature}
use Rattle.feature_account_rules.specs.Lines.{first_of_each, is_member, is_workspace_package, package_of}
use Rattle.feature_account_rules.specs.RuleList.{base_of, chosen_features, default_features, default_name, dep_of, has_feature, has_optional, member_features, named_of, own_features, standard_features}
use Rattle.feature_account_rules.proofs.LineFacts.{Contains-first_of_each, finds-first_of_each, named-Decides}
use Rattle.guppy_package_table.specs.Tables.{ids_of, place_among}
use Rattle.guppy_package_table.proofs.Places.{ends_before}
use Rattle.guppy_package_graph.specs.Finding.{IsAt}
use Rattle.guppy_package_graph.specs.Workspaces.{IsMemberPlace}
use Rattle.guppy_feature_demands.specs.Kinds.{is_base_kind, kind_of}
use Rattle.guppy_feature_demands.specs.Nodes.{is_node, nodes_of, number_of}
use Rattle.guppy_feature_demands.proofs.NumberFacts.{at_end, at_place}
use Rattle.guppy_feature_nodes.specs.GraphEdges.{ByLines, ByStrongEntries, ByWeakEntries, EdgeForm, EdgeValue, ToBase, ToDependency, ToFeature, edge_at, edge_ends, ends_of}
use Rattle.guppy_feature_nodes.specs.Graphs.{FeatureGraphValue, feature_at}
use Rattle.guppy_feature_nodes.specs.Offering.{offer_edge, offers_of, sort_of}
use Rattle.guppy_feature_nodes.specs.Orders.{default_number, is_naming, naming_edges}
use Rattle.guppy_feature_nodes.proofs.DistinctFacts.{at_number, node_known, number_known}
use Rattle.guppy_feature_graph.specs.PackageFeatures.{IsOfPackage}
use Rattle.guppy_feature_graph.specs.StandardFilters.{IsDefaultFeature, Takes}
use Rattle.test_select_feature_laws.proofs.NodeFacts.{HasLabel, feature_of, node_cases, node_of}
use Rattle.test_select_feature_laws.proofs.StandingFacts.{found_alone, found_cases}
use Rattle.test_select_feature_laws.specs.Laws.{IsBuiltOf}
use Rattle.test_select_features.specs.Known.{has_label, is_known_extra, is_known_feature}
use Rattle.test_select_features.specs.Starts.{IsStart, standard_of}

-- what is found under a test is found where the test passes
under_test : {X : Type 0} (b : Bool) (xs : List X) (x : X) → Contains (cond b xs []) x → (b ≡ true) × Contains xs x
under_test true xs x h = (refl, h)
under_test false xs x h = absurd (Contains-none x h)

-- what is there where the test passes
where_true : {X : Type 0} (b : Bool) (xs : List X) (x : X) → b ≡ true → Contains xs x → Contains (cond b xs []) x
where_true true xs x is h = h
where_true false xs x is h = absurd (false≢true is)

names : (p : Package) (name : Text) → has_feature p name ≡ true → HasFeature p name
names p name h =
    let (f, there, same) = list_any_cases (λ (x : FeatureEntry). bytes_eq name x.name) p.features h in
    (f.enables, subst (λ t. Contains p.features (record { name = t; enables = f.enables })) (sym ((bytes_eq-Decides name f.name).0 same)) there)

is_named : (p : Package) (name : Text) → HasFeature p name → has_feature p name ≡ true
is_named p name h = list_any-from_Contains (λ (x : FeatureEntry). bytes_eq name x.name) p.features (record { name = name; enables = h.0 }) h.1 ((bytes_eq-Decides name name).1 refl)

depends : (p : Package) (name : Text) → has_optional p name ≡ true → Contains p.optional name
depends p name h =
    let (x, there, same) = list_any_cases (bytes_eq name) p.optional h in
    subst (Contains p.optional) (sym ((bytes_eq-Decides name x).0 same)) there

labelled : (p : Package) (label : LabelValue) → has_label p label ≡ true → HasLabel p label
labelled p Base h = tt
labelled p (Named name) h = names p name h
labelled p (Dep name) h = depends p name h

-- a package that was found
found_of : (o : Option Package) (test : Package → Bool) → option_map_or test o false ≡ true → (p : Package) × (o ≡ Some p) × (test p ≡ true)
found_of None test h = absurd (true≢false (sym h))
found_of (Some p) test h = (p, refl, h)

-- what stands somewhere has a place
has_place : {X : Type 0} (p : X → Bool) (xs : List X) → position_or_len p xs < length xs → position p xs ≡ Some (position_or_len p xs)
has_place p xs lt = by (position p xs) refl
  where
    by : (o : Option ℕ) → position p xs ≡ o → position p xs ≡ Some (position_or_len p xs)
    by None is = let end = at_end p xs is in absurd (omega (arith, lt, end))
    by (Some i) is = is ∙ ap Some (sym (at_place p xs i is))

place_there : (ids : List Text) (id : Text) → Contains ids id → position (bytes_eq id) ids ≡ Some (place_among ids id)
place_there ids id (k, lt, is) = has_place (bytes_eq id) ids (ends_before (bytes_eq id) ids k id lt ((bytes_eq-Decides id (get_or ids k id)).1 (sym is)))

-- ids with one place are one
one_id : (ids : List Text) (a b : Text) (place : ℕ) → position (bytes_eq a) ids ≡ Some place → place_among ids b ≡ place → a ≡ b
one_id ids a b place at among =
    let first = position-Some (bytes_eq a) ids place [] at in
    let lt : position_or_len (bytes_eq b) ids < length ids = subst (λ n. n < length ids) (sym among) first.0 in
    let second = position-Some (bytes_eq b) ids place [] (has_place (bytes_eq b) ids lt ∙ ap Some among) in
    (bytes_eq-Decides a (get_or ids place [])).0 first.1 ∙ sym ((bytes_eq-Decides b (get_or ids place [])).0 second.1)

-- an edge along which default features are told leads always
free_form : (n : ℕ) (links : List Link) (e : EdgeValue) (form : EdgeForm) → is_naming form ≡ true → offers.is_free (sort_of Forward n links e form) ≡ true
free_form n links e ToBase h = refl
free_form n links e ToFeature h = refl
free_form n links e ToDependency h = absurd (false≢true h)
free_form n links e ByStrongEntries h = absurd (false≢true h)
free_form n links e (ByWeakEntries dep) h = absurd (false≢true h)
free_form n links e ByLines h = absurd (false≢true h)

module _ (g : FeatureGraphValue) where
  abbrev offered : List Edge
  offered = offers_of Forward g

  abbrev shown : EdgeValue → Edge
  shown = offer_edge Forward (length g.nodes) g.rows.links

  ends_offered : offers.edge_links offered ≡ edge_ends g.edges
  ends_offered = map-map offers.link_of shown g.edges

  abbrev no_edge : EdgeValue
  no_edge = record { from = 0; to = 0; form = ToBase; lines = [] }

  free_at : (j : ℕ) → j < length g.edges → has (naming_edges g.edges) j ≡ true → offers.is_free_at offered j ≡ true
  free_at j lt h =
      let at = get_or-map shown g.edges j no_edge (offers.edge_at [] 0) lt in
      let naming : is_naming (edge_at g.edges j).form ≡ true = sym (get_or-map (λ (e : EdgeValue). is_naming e.form) g.edges j no_edge false lt) ∙ h in
      ap (λ (e : Edge). offers.is_free e.sort) at ∙ free_form (length g.nodes) g.rows.links (edge_at g.edges j) (edge_at g.edges j).form naming

  module _ (accepts : Offer → Bool) (s : FeatureSet) (closed : AreEdgesClosed Forward offered [] accepts (λ v. s (feature_at g v) ≡ true)) where
    along : (j : ℕ) → j < length offered → offers.is_free_at offered j ≡ true → s (feature_at g (near_at Forward (edge_ends g.edges) j)) ≡ true → s (feature_at g (far_at Forward (edge_ends g.edges) j)) ≡ true
    along = subst (λ ls. (j : ℕ) → j < length offered → offers.is_free_at offered j ≡ true → s (feature_at g (near_at Forward ls j)) ≡ true → s (feature_at g (far_at Forward ls j)) ≡ true) ends_offered closed.free

    -- a set that is closed holds what default features are told to
    carried : (js : List ℕ) (a b : ℕ) → IsPath (edge_ends g.edges) (has (naming_edges g.edges)) a js b → s (feature_at g a) ≡ true → s (feature_at g b) ≡ true
    carried [] a b path here = subst (λ v. s (feature_at g v) ≡ true) path here
    carried (j ∷ js) a b (lt, ok, from, more) here =
        let small : j < length g.edges = subst (λ n. j < n) (length-map g.edges ends_of) lt in
        let within : j < length offered = subst (λ n. j < n) (sym (length-map g.edges shown)) small in
        let near : s (feature_at g (near_at Forward (edge_ends g.edges) j)) ≡ true = subst (λ v. s (feature_at g v) ≡ true) (sym from) here in
        carried js (link_at (edge_ends g.edges) j).to b more (along j within (free_at j small ok) near)

module _ (w : Workspace) (apart : AllPairs (λ a b. a.id ≢ b.id) w.packages) (g : FeatureGraphValue) (of_record : IsBuiltOf w g) (choice : Choice) where
  nodes_are : g.nodes ≡ nodes_of w.packages
  nodes_are = of_record.built.nodes ∙ ap nodes_of of_record.packages

  -- the package is one of the record's, and a member
  abbrev IsOne : Package → Type 0
  IsOne p = Contains w.packages p × (is_member w p.id ≡ true)

  -- a feature of a member is a node of the graph, of a package at the place of a member
  member_node : (p : Package) → IsOne p → (l : LabelValue) → HasLabel p l → (v : ℕ) × (v ≡ number_of g.nodes (feature_of p l)) × (feature_at g v ≡ feature_of p l) × IsOfPackage g (IsMemberPlace g.rows) v
  member_node p one l label =
      let f = feature_of p l in
      let there : Contains g.nodes f = subst (λ nodes. Contains nodes f) (sym nodes_are) (node_of w.packages p one.0 l label) in
      let lt = number_known g.nodes f there in
      let at : feature_at g (number_of g.nodes f) ≡ f = at_number g.nodes f lt in
      let ids = ids_of g.rows.packages in
      let listed : Contains ids p.id = subst (λ (ps : List Package). Contains (ids_of ps) p.id) (sym of_record.packages) (Contains-map (λ (q : Package). q.id) w.packages p one.0) in
      let (m, among, same) = (named-Decides (λ (m : Member). m.package_id) w.workspace.members p.id).0 one.1 in
      let of_members : Contains g.rows.workspace.members m = subst (λ (d : WorkspaceDetails). Contains d.members m) (sym of_record.workspace) among in (
        number_of g.nodes f,
        refl,
        at,
        record {
          within = lt;
          place = place_among ids p.id;
          is_at = subst (λ (x : FeatureValue). IsAt g.rows x.package_id (place_among ids p.id)) (sym at) (place_there ids p.id listed);
          is = subst (λ id. IsMemberPlace g.rows (place_among ids id)) same (Contains-map (λ (x : Member). place_among ids x.package_id) g.rows.workspace.members m of_members);
        },
      )

  -- what was chosen has a node at which the resolve begins
  abbrev HasStart : FeatureValue → Type 0
  HasStart c = (v : ℕ) × IsStart g choice v × (feature_at g v ≡ c)

  abbrev standard : Standard
  standard = choice.standard

  started : (p : Package) → IsOne p → (l : LabelValue) → HasLabel p l → (Takes (standard_of standard) g (feature_of p l) ⊎ Contains choice.extras (feature_of p l)) → HasStart (feature_of p l)
  started p one l label taken =
      let (v, number, at, of_member) = member_node p one l label in
      (v, record { of_member = of_member; taken = subst (λ f. Takes (standard_of standard) g f ⊎ Contains choice.extras f) (sym at) taken }, at)

  base_taken : (s : Standard) (id : Text) → Takes (standard_of s) g (base_of id)
  base_taken chosen.None id = refl
  base_taken chosen.Default id = inl refl
  base_taken chosen.All id = tt

  -- the `default` of a member is a default feature
  default_taken : (p : Package) → IsOne p → HasFeature p default_name → IsDefaultFeature g (named_of p.id default_name)
  default_taken p one has =
      let f = named_of p.id default_name in
      let (v, number, at, of_member) = member_node p one (Named default_name) has in
      let lt : number_of g.nodes f < length g.nodes = subst (λ n. n < length g.nodes) number of_member.within in
      let there : is_node g.nodes f ≡ true = list_any-from_Contains (feature_eq f) g.nodes f (subst (λ nodes. Contains nodes f) (sym nodes_are) (node_of w.packages p one.0 (Named default_name) has)) ((features_decide f f).1 refl) in
      let begins : default_number g.nodes p.id ≡ number_of g.nodes f = ap (λ b. cond b (number_of g.nodes f) (number_of g.nodes (base_of p.id))) there in
      let of_f : (feature_at g (number_of g.nodes f)).package_id ≡ p.id = ap (λ (x : FeatureValue). x.package_id) (subst (λ n. feature_at g n ≡ f) number at) in
      (lt, record { within = lt; leads = record { path = []; leads = ap (default_number g.nodes) of_f ∙ begins } })

  own_started : (p : Package) → IsOne p → ((l : LabelValue) → Takes (standard_of standard) g (feature_of p l)) → (f : FeatureValue) → Contains (own_features p) f → HasStart f
  own_started p one all f h =
      ⊎_elim (λ n. let x = Contains-map_cases (λ (e : FeatureEntry). named_of p.id e.name) p.features f n in subst HasStart x.2 (started p one (Named x.0.name) (x.0.enables, x.1) (inl (all (Named x.0.name)))))
      (λ d. let x = Contains-map_cases (dep_of p.id) p.optional f d in subst HasStart x.2 (started p one (Dep x.0) x.1 (inl (all (Dep x.0)))))
      (Contains-append_cases (map (λ (e : FeatureEntry). named_of p.id e.name) p.features) (map (dep_of p.id) p.optional) f h)

  standard_started : (p : Package) → IsOne p → (s : Standard) → standard ≡ s → (f : FeatureValue) → Contains (standard_features s p) f → HasStart f
  standard_started p one chosen.None is f h = absurd (Contains-none f h)
  standard_started p one chosen.Default is f h =
      let (has, only) = under_test (has_feature p default_name) (named_of p.id default_name ∷ []) f h in
      let named = names p default_name has in
      let taken : Takes (standard_of standard) g (named_of p.id default_name) = subst (λ s. Takes (standard_of s) g (named_of p.id default_name)) (sym is) (inr (default_taken p one named)) in
      ⊎_elim (λ e. subst HasStart e (started p one (Named default_name) named (inl taken))) (λ none. absurd (Contains-none f none)) (Contains-cons_cases (named_of p.id default_name) [] f only)
  standard_started p one chosen.All is f h = own_started p one (λ l. subst (λ s. Takes (standard_of s) g (feature_of p l)) (sym is) tt) f h

  member_started : (p : Package) → Contains w.packages p → (f : FeatureValue) → Contains (member_features w standard p) f → HasStart f
  member_started p listed f h =
      let (member, among) = under_test (is_member w p.id) (base_of p.id ∷ standard_features standard p) f h in
      ⊎_elim (λ e. subst HasStart e (started p (listed, member) Base tt (inl (base_taken standard p.id)))) (standard_started p (listed, member) standard refl f) (Contains-cons_cases (base_of p.id) (standard_features standard p) f among)

  extra_started : (f : FeatureValue) → is_known_extra w f ≡ true → Contains choice.extras f → HasStart f
  extra_started f known there =
      let both = and_parts (is_workspace_package w f.package_id) (is_known_feature w f) known in
      let member = (and_parts (list_any (λ (p : Package). bytes_eq f.package_id p.id) w.packages) (is_member w f.package_id) both.0).1 in
      let (p, found, has) = found_of (package_of w f.package_id) (λ q. has_label q f.label) both.1 in
      let (listed, same) = found_cases w apart f.package_id p found in
      let is : feature_of p f.label ≡ f = ap (λ id. record { package_id = id; label = f.label }) same in
      let one : IsOne p = (listed, subst (λ id. is_member w id ≡ true) (sym same) member) in
      subst HasStart is (started p one f.label (labelled p f.label has) (inr (subst (Contains choice.extras) (sym is) there)))

  -- what the choice switches on by itself has nodes at which the resolve begins, where its extras are of members
  pub chosen_started : All (λ f. is_known_extra w f ≡ true) choice.extras → (f : FeatureValue) → Contains (chosen_features w choice) f → HasStart f
  chosen_started known f h =
      ⊎_elim (λ r.
      let (p, first, has) = Contains-flat_map_cases (member_features w standard) (first_of_each w.packages) f r in
      member_started p (found_cases w apart p.id p (finds-first_of_each w.packages p first)).0 f has) (λ x. extra_started f (All-contains (λ f. is_known_extra w f ≡ true) choice.extras f known x) x) (Contains-append_cases (flat_map (member_features w standard) (first_of_each w.packages)) choice.extras f h)

  -- a node at which the resolve begins is what a member has
  start_cases : (v : ℕ) → IsOfPackage g (IsMemberPlace g.rows) v → (p : Package) × IsOne p × (p.id ≡ (feature_at g v).package_id) × HasLabel p (feature_at g v).label
  start_cases v of_member =
      let f = feature_at g v in
      let ids = ids_of g.rows.packages in
      let there : Contains (nodes_of w.packages) f = subst (λ nodes. Contains nodes f) nodes_are (Contains-get_or g.nodes v (base_of []) of_member.within) in
      let (p, listed, same, label) = node_cases w.packages f there in
      let (m, among, place) = Contains-map_cases (λ (x : Member). place_among ids x.package_id) g.rows.workspace.members of_member.place of_member.is in
      let id : f.package_id ≡ m.package_id = one_id ids f.package_id m.package_id of_member.place of_member.is_at place in
      let of_members : Contains w.workspace.members m = subst (λ (d : WorkspaceDetails). Contains d.members m) of_record.workspace among in
      let member : is_member w p.id ≡ true = (named-Decides (λ (x : Member). x.package_id) w.workspace.members p.id).1 (m, of_members, sym id ∙ sym same) in
      (p, (listed, member), same, label)

  module _ (accepts : Offer → Bool) (s : FeatureSet) (begins : (f : FeatureValue) → Contains (chosen_features w choice) f → s f ≡ true) (closed : AreEdgesClosed Forward (offers_of Forward g) [] accepts (λ v. s (feature_at g v) ≡ true)) where
    -- what a member has by the standard choice is in the set
    of_member : (p : Package) → IsOne p → (f : FeatureValue) → Contains (base_of p.id ∷ standard_features standard p) f → s f ≡ true
    of_member p one f h =
        let listed = Contains-first_of_each w.packages p (found_alone w apart p one.0) in
        begins f (Contains-append_left (flat_map (member_features w standard) (first_of_each w.packages)) choice.extras f (Contains-flat_map (member_features w standard) (first_of_each w.packages) p f listed (where_true (is_member w p.id) (base_of p.id ∷ standard_features standard p) f one.1 h)))

    base_in : (p : Package) → IsOne p → s (base_of p.id) ≡ true
    base_in p one = of_member p one (base_of p.id) (Contains-first (base_of p.id) (standard_features standard p))

    standard_in : (p : Package) → IsOne p → (t : Standard) → standard ≡ t → (f : FeatureValue) → Contains (standard_features t p) f → s f ≡ true
    standard_in p one t is f h = of_member p one f (Contains-rest (base_of p.id) (standard_features standard p) f (subst (λ x. Contains (standard_features x p) f) (sym is) h))

    only_base : (p : Package) → IsOne p → (l : LabelValue) → IsTrue (is_base_kind (kind_of l)) → s (feature_of p l) ≡ true
    only_base p one Base is = base_in p one
    only_base p one (Named name) is = absurd (false≢true is)
    only_base p one (Dep name) is = absurd (false≢true is)

    all_in : (p : Package) → IsOne p → standard ≡ chosen.All → (l : LabelValue) → HasLabel p l → s (feature_of p l) ≡ true
    all_in p one is Base label = base_in p one
    all_in p one is (Named name) label =
        standard_in p one chosen.All is (named_of p.id name) (Contains-append_left (map (λ (e : FeatureEntry). named_of p.id e.name) p.features) (map (dep_of p.id) p.optional) (named_of p.id name) (Contains-map (λ (e : FeatureEntry). named_of p.id e.name) p.features (record { name = name; enables = label.0 }) label.1))
    all_in p one is (Dep name) label =
        standard_in p one chosen.All is (dep_of p.id name) (Contains-append_right (map (λ (e : FeatureEntry). named_of p.id e.name) p.features) (map (dep_of p.id) p.optional) (dep_of p.id name) (Contains-map (dep_of p.id) p.optional name label))

    -- that from which a member's default features are told is in the set
    default_in : (p : Package) → IsOne p → standard ≡ chosen.Default → s (feature_at g (default_number g.nodes p.id)) ≡ true
    default_in p one is = by (is_node g.nodes (named_of p.id default_name)) refl
      where
        at : (f : FeatureValue) → number_of g.nodes f < length g.nodes → s f ≡ true → s (feature_at g (number_of g.nodes f)) ≡ true
        at f lt h = subst (λ x. s x ≡ true) (sym (at_number g.nodes f lt)) h

        by : (b : Bool) → is_node g.nodes (named_of p.id default_name) ≡ b → s (feature_at g (cond b (number_of g.nodes (named_of p.id default_name)) (number_of g.nodes (base_of p.id)))) ≡ true
        by true there =
            let lt = node_known g.nodes (named_of p.id default_name) there in
            let among : Contains (nodes_of w.packages) (named_of p.id default_name) = subst (λ nodes. Contains nodes (named_of p.id default_name)) nodes_are (subst (Contains g.nodes) (at_number g.nodes (named_of p.id default_name) lt) (Contains-get_or g.nodes (number_of g.nodes (named_of p.id default_name)) (base_of []) lt)) in
            let (q, listed, same, label) = node_cases w.packages (named_of p.id default_name) among in
            let one_q : IsOne q = (listed, subst (λ id. is_member w id ≡ true) (sym same) one.1) in
            let has : has_feature q default_name ≡ true = is_named q default_name label in
            let own : Contains (default_features q) (named_of q.id default_name) = where_true (has_feature q default_name) (named_of q.id default_name ∷ []) (named_of q.id default_name) has (Contains-first (named_of q.id default_name) []) in
            at (named_of p.id default_name) lt (subst (λ id. s (named_of id default_name) ≡ true) same (standard_in q one_q chosen.Default is (named_of q.id default_name) own))
        by false none =
            let (v, number, place, of_p) = member_node p one Base tt in
            at (base_of p.id) (subst (λ n. n < length g.nodes) number of_p.within) (base_in p one)

    taken_in : (p : Package) → IsOne p → (t : Standard) → standard ≡ t → (l : LabelValue) → HasLabel p l → Takes (standard_of t) g (feature_of p l) → s (feature_of p l) ≡ true
    taken_in p one chosen.None is l label taken = only_base p one l taken
    taken_in p one chosen.Default is l label taken =
        ⊎_elim (only_base p one l) (λ d.
        let f = feature_of p l in
        let at : feature_at g (number_of g.nodes f) ≡ f = at_number g.nodes f d.0 in
        let begun : s (feature_at g (default_number g.nodes (feature_at g (number_of g.nodes f)).package_id)) ≡ true = subst (λ (x : FeatureValue). s (feature_at g (default_number g.nodes x.package_id)) ≡ true) (sym at) (default_in p one is) in
        subst (λ x. s x ≡ true) at (carried g accepts s closed d.1.leads.path (default_number g.nodes (feature_at g (number_of g.nodes f)).package_id) (number_of g.nodes f) d.1.leads.leads begun)) taken
    taken_in p one chosen.All is l label taken = all_in p one is l label

    -- a closed set that has what the choice switches on by itself has what the filter takes of the features of members
    pub starts_in : (v : ℕ) → IsStart g choice v → s (feature_at g v) ≡ true
    starts_in v start =
        let f = feature_at g v in
        let (p, one, same, label) = start_cases v start.of_member in
        let is : feature_of p f.label ≡ f = ap (λ id. record { package_id = id; label = f.label }) same in
        ⊎_elim (λ taken. subst (λ x. s x ≡ true) is (taken_in p one standard refl f.label label (subst (Takes (standard_of standard) g) (sym is) taken))) (λ extra. begins f (Contains-append_right (flat_map (member_features w standard) (first_of_each w.packages)) choice.extras f extra)) start.taken
