-- What is demanded by a line is demanded by a line of the rows.
use Rattle.std.proofs.Common.{◌≡◌, ℕ, suc, ◌+◌, ◌<◌, length, get_or, Bool, true, false, cond, List, [], ◌∷◌, ◌++◌, Contains, Option, Some, None, option_and_then, slice_get, map, flat_map, IsTrue, refl, sym, subst, ap, ◌∙◌, ⊎_elim, arith}
use Rattle.std.specs.Option.{is_some}
use Rattle.std.proofs.lemmas.Bool.{false≢true}
use Rattle.std.proofs.lemmas.Option.{slice_get-get_or}
use Rattle.list_facts.proofs.Membership.{Contains-none, Contains-cons_cases, Contains-append_cases, Contains-map_cases, Contains-filter_cases, Contains-flat_map_cases}
use Rattle.workspace_record.specs.Records.{Text, Package, Line, Link}
use Rattle.workspace_record.specs.Features.{FeatureValue}
use Rattle.guppy_package_parts.specs.Lines.{IsLineAt, line_at}
use Rattle.workspace_record.specs.Entries.{EntryValue, OwnFeature, Dependency, Strong, Weak, entry_value}
use Rattle.guppy_feature_demands.specs.Numbered.{numbered, numbered_from, lines_of, links_named, is_named_link}
use Rattle.guppy_feature_demands.specs.Nodes.{base_of, dep_of, named_of, first_of_each, is_node, nodes_of}
use Rattle.guppy_feature_demands.specs.Demands.{DemandValue, FormValue, NamedFeature, NamedFeatureDepColon, StrongSlash, WeakSlash, DependenciesSection, FeatureToBase, leads, leads_by, base_demands, slash_demands, dependency_demands, entry_demands, feature_demands, package_demands, same_name, line_start, line_targets, line_demands, link_demands, demands_of}

none_some : {X : Type 0} (x : X) → None ≡ Some x → ⊥
none_some x h = cc

-- an element with its number stands at that place
pub numbered_from-at : {X : Type 0} (n : ℕ) (xs : List X) (p : ℕ × X) → Contains (numbered_from n xs) p → (k : ℕ) × (k < length xs) × (p.0 ≡ n + k) × ((d : X) → get_or xs k d ≡ p.1)
numbered_from-at n [] p h = absurd (Contains-none p h)
numbered_from-at n (x ∷ xs) p h =
    ⊎_elim (λ e. (0, omega arith, sym (ap (λ (q : ℕ × _). q.0) e) ∙ omega arith, λ d. ap (λ (q : ℕ × _). q.1) e)) (λ r. later (numbered_from-at (n + 1) xs p r)) (Contains-cons_cases (n, x) (numbered_from (n + 1) xs) p h)
  where
    later : (k : ℕ) × (k < length xs) × (p.0 ≡ (n + 1) + k) × ((d : _) → get_or xs k d ≡ p.1) → (k : ℕ) × (k < length (x ∷ xs)) × (p.0 ≡ n + k) × ((d : _) → get_or (x ∷ xs) k d ≡ p.1)
    later (k, lt, at, is) = (suc k, omega (arith, lt), at ∙ omega arith, is)

pub numbered-at : {X : Type 0} (xs : List X) (p : ℕ × X) → Contains (numbered xs) p → slice_get xs p.0 ≡ Some p.1
numbered-at xs p h =
    let found = numbered_from-at 0 xs p h in
    let k = found.0 in
    let at : p.0 ≡ k = found.2 ∙ omega arith in
    ap (slice_get xs) at ∙ slice_get-get_or xs k p.1 found.1 ∙ ap Some (found.3 p.1)

-- demands of this form are made by lines
abbrev pub by_lines : FormValue → Bool
by_lines FeatureToBase = false
by_lines NamedFeature = false
by_lines NamedFeatureDepColon = false
by_lines (StrongSlash name) = true
by_lines (WeakSlash name) = true
by_lines DependenciesSection = true

module _ (links : List Link) where
  -- the demand is made by no line, or by one of the rows; where its form is that of lines, by one
  abbrev HasLine : DemandValue → Type 0
  HasLine d = ((x : ℕ × ℕ) → d.line ≡ Some x → IsLineAt links x) × (by_lines d.form ≡ true → IsTrue (is_some d.line))

  -- all of these demands are
  abbrev AllHaveLines : List DemandValue → Type 0
  AllHaveLines ds = (d : DemandValue) → Contains ds d → HasLine d

  always : (form : FormValue) (f g : FeatureValue) → by_lines form ≡ false → HasLine (leads form f g)
  always form f g plain = (λ x h. absurd (none_some x h), λ h. absurd (false≢true (sym plain ∙ h)))

  by_a_line : (form : FormValue) (f g : FeatureValue) (x : ℕ × ℕ) → IsLineAt links x → HasLine (leads_by form f g x)
  by_a_line form f g x here = (λ y h. subst (IsLineAt links) (same x y h) here, λ h. refl)
    where
      same : (x y : ℕ × ℕ) → Some x ≡ Some y → x ≡ y
      same x y h = cc

  none_at_all : AllHaveLines []
  none_at_all d h = absurd (Contains-none d h)

  and_these : (d : DemandValue) (ds : List DemandValue) → HasLine d → AllHaveLines ds → AllHaveLines (d ∷ ds)
  and_these d ds first rest e h = ⊎_elim (λ k. subst HasLine k first) (λ r. rest e r) (Contains-cons_cases d ds e h)

  both_parts : (ds es : List DemandValue) → AllHaveLines ds → AllHaveLines es → AllHaveLines (ds ++ es)
  both_parts ds es first rest e h = ⊎_elim (λ k. first e k) (λ k. rest e k) (Contains-append_cases ds es e h)

  each_of : {X : Type 0} (f : X → DemandValue) (xs : List X) → ((x : X) → Contains xs x → HasLine (f x)) → AllHaveLines (map f xs)
  each_of f xs each d h = let found = Contains-map_cases f xs d h in subst HasLine found.2 (each found.0 found.1)

  all_of : {X : Type 0} (f : X → List DemandValue) (xs : List X) → ((x : X) → Contains xs x → AllHaveLines (f x)) → AllHaveLines (flat_map f xs)
  all_of f xs each d h = let found = Contains-flat_map_cases f xs d h in each found.0 found.1 d found.2

  -- a line of a numbered link is one of the rows
  is_line : (link : ℕ × Link) → Contains (numbered links) link → (line : (ℕ × ℕ) × Line) → Contains (lines_of link) line → IsLineAt links line.0
  is_line link within line h =
      let found = Contains-map_cases (λ (l : ℕ × Line). ((link.0, l.0), l.1)) (numbered link.1.lines) line h in
      let l = found.0 in
      let at : line_at links (link.0, l.0) ≡ Some l.1 = ap (option_and_then (λ (k : Link). slice_get k.lines l.0)) (numbered-at links link within) ∙ numbered-at link.1.lines l found.1 in
      let here : IsLineAt links (link.0, l.0) = subst (λ (o : Option Line). IsTrue (is_some o)) (sym at) refl in
      subst (λ (p : (ℕ × ℕ) × Line). IsLineAt links p.0) found.2 here

  slash_lines : (form : FormValue) (f : FeatureValue) (x : Text) (link : ℕ × Link) → Contains (numbered links) link → AllHaveLines (slash_demands form f x link)
  slash_lines form f x link within = each_of (λ line. leads_by form f (named_of link.1.to x) line.0) (lines_of link) (λ line h. by_a_line form f (named_of link.1.to x) line.0 (is_line link within line h))

  named_lines : (form : FormValue) (f : FeatureValue) (id name x : Text) → AllHaveLines (flat_map (slash_demands form f x) (links_named (numbered links) id name))
  named_lines form f id name x = all_of (slash_demands form f x) (links_named (numbered links) id name) (λ link h. slash_lines form f x link (Contains-filter_cases (is_named_link id name) (numbered links) link h).0)

  dependency_lines : (nodes : List FeatureValue) (id : Text) (f : FeatureValue) (name : Text) → AllHaveLines (dependency_demands nodes id f name)
  dependency_lines nodes id f name =
      and_these (leads NamedFeatureDepColon f (dep_of id name)) (cond (is_node nodes (dep_of id name)) (leads NamedFeature f (named_of id name) ∷ []) []) (always NamedFeatureDepColon f (dep_of id name) refl) (by (is_node nodes (dep_of id name)))
    where
      by : (b : Bool) → AllHaveLines (cond b (leads NamedFeature f (named_of id name) ∷ []) [])
      by true = and_these (leads NamedFeature f (named_of id name)) [] (always NamedFeature f (named_of id name) refl) none_at_all
      by false = none_at_all

  entry_lines : (nodes : List FeatureValue) (id : Text) (f : FeatureValue) (e : EntryValue) → AllHaveLines (entry_demands nodes (numbered links) id f e)
  entry_lines nodes id f (OwnFeature name) = and_these (leads NamedFeature f (named_of id name)) [] (always NamedFeature f (named_of id name) refl) none_at_all
  entry_lines nodes id f (Dependency name) = and_these (leads NamedFeatureDepColon f (dep_of id name)) [] (always NamedFeatureDepColon f (dep_of id name) refl) none_at_all
  entry_lines nodes id f (Strong name x) = both_parts (flat_map (slash_demands (StrongSlash name) f x) (links_named (numbered links) id name)) (dependency_demands nodes id f name) (named_lines (StrongSlash name) f id name x) (dependency_lines nodes id f name)
  entry_lines nodes id f (Weak name x) = named_lines (WeakSlash name) f id name x

  package_lines : (nodes : List FeatureValue) (p : Package) → AllHaveLines (package_demands nodes (numbered links) p)
  package_lines nodes p = all_of (feature_demands nodes (numbered links) p.id) (first_of_each same_name p.features) (λ f h. all_of (λ e. entry_demands nodes (numbered links) p.id (named_of p.id f.name) (entry_value e)) f.enables (λ e k. entry_lines nodes p.id (named_of p.id f.name) (entry_value e)))

  link_lines : (link : ℕ × Link) → Contains (numbered links) link → AllHaveLines (link_demands link)
  link_lines link within = all_of (line_demands link.1) (lines_of link) (λ line h. each_of (λ g. leads_by DependenciesSection (line_start link.1 line.1) g line.0) (line_targets link.1 line.1) (λ g k. by_a_line DependenciesSection (line_start link.1 line.1) g line.0 (is_line link within line h)))

  pub demands_lined : (packages : List Package) → AllHaveLines (demands_of packages links)
  demands_lined packages =
      let nodes = nodes_of packages in
      let entries = flat_map (package_demands nodes (numbered links)) packages in
      let lines = flat_map link_demands (numbered links) in
      both_parts (base_demands nodes) (entries ++ lines) (each_of (λ f. leads FeatureToBase f (base_of f.package_id)) nodes (λ f h. always FeatureToBase f (base_of f.package_id) refl))
      (both_parts entries lines (all_of (package_demands nodes (numbered links)) packages (λ p h. package_lines nodes p)) (all_of link_demands (numbered links) (λ link h. link_lines link h)))
