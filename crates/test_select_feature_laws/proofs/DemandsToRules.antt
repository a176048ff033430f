-- A set that is closed under what the rows demand is closed under the rules.
use Rattle.std.proofs.Common.{◌≡◌, ℕ, ◌<◌, Bool, true, false, cond, List, [], ◌∷◌, ◌++◌, length, map, slice_get, Contains, Some, refl, sym, subst, ap, ◌∙◌}
use Rattle.std.proofs.lemmas.Bool.{and_parts, or_parts, true≢false}
use Rattle.std.proofs.lemmas.List.Elements.{All-contains}
use Rattle.std.proofs.lemmas.Option.{slice_get-get_or}
use Rattle.list_facts.proofs.Membership.{Contains-append_left, Contains-append_right, Contains-first, Contains-rest, Contains-map}
use Rattle.list_facts.proofs.Quantifiers.{Any_cases, list_any-from_Contains}
use Rattle.workspace_record.specs.Records.{Text, Line, Link, Package, Workspace}
use Rattle.workspace_record.specs.Features.{LabelValue, Base, Named, Dep, FeatureValue, feature_eq, features_decide}
use Rattle.workspace_record.specs.declared.choice.PlatformTable.{PlatformTable}
use Rattle.guppy_package_rules.specs.Kept.{IsPackageId}
use Rattle.feature_account_rules.specs.Closed.{FeatureSet, has_premises}
use Rattle.workspace_record.specs.Entries.{Strong, Weak}
use Rattle.feature_account_rules.specs.IsEntry.{IsEntry}
use Rattle.feature_account_rules.specs.IsRule.{Counts, HasEntry, IsFound, IsRule, LeadsTo, TargetHas, member_base, member_default, member_named, member_dep, extra, named_base, dep_base, own_entry, dependency_entry, strong_feature, strong_dependency, strong_name, weak_required, weak_optional, line_base, line_default, line_feature}
use Rattle.feature_account_rules.specs.RuleList.{default_name}
use Rattle.feature_account_rules.specs.declared.rule.Premises.TheVariants.{None}
use Rattle.feature_account_rules.specs.declared.rule.Rule.{Rule}
use Rattle.guppy_feature_demands.specs.Demands.{DemandValue, FormValue, FeatureToBase, NamedFeature, NamedFeatureDepColon, StrongSlash, WeakSlash, DependenciesSection, default_of, demands_of, kept_demands, leads, leads_by, line_start, line_targets, with_numbers}
use Rattle.guppy_feature_demands.specs.Nodes.{base_of, dep_of, is_node, named_of, nodes_of, number_of}
use Rattle.guppy_feature_nodes.specs.GraphEdges.{waits_for}
use Rattle.guppy_feature_nodes.specs.Graphs.{FeatureGraphValue, feature_at}
use Rattle.guppy_feature_nodes.proofs.DistinctFacts.{number_known}
use Rattle.test_select_feature_laws.specs.Demands.{AreDemandsClosed, is_firm, is_lined}
use Rattle.test_select_feature_laws.specs.RecordGraphs.{HasOptionalNames, IsGraphOf}
use Rattle.test_select_feature_laws.specs.Rules.{AreRulesClosed, is_among, standing_rules}
use Rattle.test_select_feature_laws.proofs.CountFacts.{counts_here, node_at}
use Rattle.test_select_feature_laws.proofs.DemandFacts as demand
use Rattle.test_select_feature_laws.proofs.DemandFacts.{IsDemand, IsPlaced}
use Rattle.test_select_feature_laws.proofs.KeptDemandFacts.{IsKept, kept}
use Rattle.test_select_feature_laws.proofs.MadeFacts.{is_demanded}
use Rattle.test_select_feature_laws.proofs.NodeFacts.{HasLabel, feature_of, node_of}
use Rattle.test_select_feature_laws.proofs.StartFacts.{start_id, waits_at}
use Rattle.test_select_feature_laws.proofs.StandingFacts.{found_cases, has_premise, no_choice, standing_cases}

-- what a list contains stands at a number
at_some : {X : Type 0} (xs : List X) (x : X) → Contains xs x → (k : ℕ) × (slice_get xs k ≡ Some x)
at_some xs x h = (h.0, slice_get-get_or xs h.0 x h.1 ∙ ap Some h.2)

-- each line of the links has a place
place_of : (links : List Link) (link : Link) (line : Line) → Contains links link → Contains link.lines line → (place : ℕ × ℕ) × IsPlaced links place link line
place_of links link line listed declared =
    let (i, link_at) = at_some links link listed in
    let (j, line_at) = at_some link.lines line declared in
    ((i, j), record { link_at = link_at; line_at = line_at })

-- a line asks for the default feature where it says so
asks_default : (link : Link) (line : Line) → line.default_features ≡ true → Contains (line_targets link line) (named_of link.to default_name)
asks_default link line asked =
    let f = named_of link.to default_name in
    let listed = map (named_of link.to) line.features in
    Contains-rest (base_of link.to) (default_of link.to line ++ listed) f (Contains-append_left (default_of link.to line) listed f (subst (λ b. Contains (cond b (f ∷ []) []) f) (sym asked) (Contains-first f [])))

-- a line asks for the features that it lists
asks_feature : (link : Link) (line : Line) (name : Text) → Contains line.features name → Contains (line_targets link line) (named_of link.to name)
asks_feature link line name h =
    let f = named_of link.to name in
    let listed = map (named_of link.to) line.features in
    Contains-rest (base_of link.to) (default_of link.to line ++ listed) f (Contains-append_right (default_of link.to line) listed f (Contains-map (named_of link.to) line.features name h))

module _ (w : Workspace) (table : PlatformTable) (g : FeatureGraphValue) (s : FeatureSet) (graph : IsGraphOf w g) where
  abbrev nodes : List FeatureValue
  nodes = nodes_of w.packages

  abbrev demands : List DemandValue
  demands = demands_of w.packages w.links

  -- the set has the feature with this number
  abbrev Holds : ℕ → Type 0
  Holds v = s (feature_at g v) ≡ true

  -- what a package has that is found is a node
  own_node : (p : Package) → IsFound w p → (label : LabelValue) → HasLabel p label → Contains nodes (feature_of p label)
  own_node p found label h = node_of w.packages p (found_cases w graph.kept.ids_apart p.id p found).0 label h

  -- what the target of a link has is a node
  target_node : (link : Link) (name : Text) → TargetHas w link name → Contains nodes (named_of link.to name)
  target_node link name has =
      let (listed, is) = found_cases w graph.kept.ids_apart link.to has.0 has.1 in
      subst (λ id. Contains nodes (named_of id name)) is (node_of w.packages has.0 listed (Named name) has.2)

  -- the package with an id is a node
  base_node : (id : Text) → IsPackageId w.packages id → Contains nodes (base_of id)
  base_node id known =
      let (p, listed, is) = Any_cases (λ p. p.id ≡ id) w.packages known in
      subst (λ i. Contains nodes (base_of i)) is (node_of w.packages p listed Base tt)

  -- both ends of a link are packages
  ends : (link : Link) → Contains w.links link → IsPackageId w.packages link.from × IsPackageId w.packages link.to
  ends link listed = All-contains (λ l. IsPackageId w.packages l.from × IsPackageId w.packages l.to) w.links link graph.kept.ends_known listed

  -- the dependency of an optional line is a node
  dependency_node : (link : Link) → Contains w.links link → (line : Line) → Contains link.lines line → line.optional ≡ true → Contains nodes (dep_of link.from link.name)
  dependency_node link listed line declared optional =
      let (p, there, is) = Any_cases (λ p. p.id ≡ link.from) w.packages (ends link listed).0 in
      subst (λ id. Contains nodes (dep_of id link.name)) is (node_of w.packages p there (Dep link.name) (All-contains (HasOptionalNames w.packages) w.links link graph.optional_names listed p there is line declared optional))

  -- the start of a line is a node
  start_node : (link : Link) → Contains w.links link → (line : Line) → Contains link.lines line → Contains nodes (line_start link line)
  start_node link listed line declared = by line.optional refl
    where
      by : (b : Bool) → line.optional ≡ b → Contains nodes (cond b (dep_of link.from link.name) (base_of link.from))
      by true e = dependency_node link listed line declared e
      by false e = base_node link.from (ends link listed).0

  -- a node that the set has is held by its number
  holds : (f : FeatureValue) → Contains nodes f → s f ≡ true → Holds (number_of nodes f)
  holds f h e = ap s (node_at w g graph f h) ∙ e

  -- the set holds that node where it has the dependency
  waits : (f : FeatureValue) → Contains nodes f → (name : Text) → Contains nodes (dep_of f.package_id name) → s (dep_of f.package_id name) ≡ true → (waits_for nodes (number_of nodes f) name < length g.nodes) × Holds (waits_for nodes (number_of nodes f) name)
  waits f h name there on =
      let dependency = dep_of f.package_id name in
      subst (λ v. (v < length g.nodes) × Holds v) (sym (waits_at nodes f h name)) (subst (λ (ns : List FeatureValue). number_of nodes dependency < length ns) (sym (graph.built.nodes ∙ ap nodes_of graph.packages)) (number_known nodes dependency there), holds dependency there on)

  -- what is demanded between two different nodes is kept
  between : (d : DemandValue) → IsDemand w.packages w.links d → Contains nodes d.from → Contains nodes d.to → feature_eq d.from d.to ≡ false → IsKept nodes demands d
  between d is from to differ = record { demanded = is_demanded w.packages w.links graph.distinct d is; from = from; to = to; differ = differ }

  module _ (closed : AreDemandsClosed table g (kept_demands nodes demands) nodes Holds) where
    -- what leads from number to number leads from feature to feature
    along : (d : DemandValue) → IsKept nodes demands d → (Holds (number_of nodes d.from) → Holds (number_of nodes d.to)) → s d.from ≡ true → s d.to ≡ true
    along d k step on = sym (ap s (node_at w g graph d.to k.to)) ∙ step (holds d.from k.from on)

    -- the set goes on along a demand that leads always
    firm : (d : DemandValue) → IsKept nodes demands d → is_firm d.form ≡ true → s d.from ≡ true → s d.to ≡ true
    firm d k is = along d k (closed.firm (with_numbers nodes d) (kept nodes demands d k) is)

    module _ (place : ℕ × ℕ) (link : Link) (line : Line) (at : IsPlaced w.links place link line) (counts : Counts w table link line) where
      -- and along a demand by a line that counts
      lined : (d : DemandValue) → IsKept nodes demands d → is_lined d.form ≡ true → d.line ≡ Some place → d.from.package_id ≡ link.from → s d.from ≡ true → s d.to ≡ true
      lined d k is by from =
          along d k (closed.lined (with_numbers nodes d) (kept nodes demands d k) is place by (counts_here w g graph table (number_of nodes d.from) place link line at (ap (λ (f : FeatureValue). f.package_id) (node_at w g graph d.from k.from) ∙ from) counts).0)

      -- and along that of a weak entry, by an optional line where the set has the dependency
      weak : (name : Text) (f t : FeatureValue) → IsKept nodes demands (leads_by (WeakSlash name) f t place) → f.package_id ≡ link.from → (line.optional ≡ true → Contains nodes (dep_of f.package_id name) × (s (dep_of f.package_id name) ≡ true)) → s f ≡ true → s t ≡ true
      weak name f t k from over =
          let d = leads_by (WeakSlash name) f t place in
          let (c, same) = counts_here w g graph table (number_of nodes f) place link line at (ap (λ (f : FeatureValue). f.package_id) (node_at w g graph f k.from) ∙ from) counts in
          along d k (closed.weak (with_numbers nodes d) (kept nodes demands d k) name refl place refl c (λ optional. let has = over (ap (λ (l : Line). l.optional) (sym same) ∙ optional) in waits f k.from name has.0 has.1))

    -- a line leads to what it asks for
    line_leads : (link : Link) (line : Line) (f : FeatureValue) → Contains w.links link → Counts w table link line → Contains (line_targets link line) f → Contains nodes f → feature_eq (line_start link line) f ≡ false → s (line_start link line) ≡ true → s f ≡ true
    line_leads link line f listed counts asked there apart =
        let (place, at) = place_of w.links link line listed counts.declared in
        let d = leads_by DependenciesSection (line_start link line) f place in
        lined place link line at counts d (between d (demand.by_line at asked) (start_node link listed line counts.declared) there apart) refl refl (start_id link line)

    module _ (p : Package) (found : IsFound w p) where
      -- it is among the packages
      listed : Contains w.packages p
      listed = (found_cases w graph.kept.ids_apart p.id p found).0

      -- a feature of the package leads to the package
      base_leads : (label : LabelValue) → HasLabel p label → feature_eq (feature_of p label) (base_of p.id) ≡ false → s (feature_of p label) ≡ true → s (base_of p.id) ≡ true
      base_leads label has apart =
          let d = leads FeatureToBase (feature_of p label) (base_of p.id) in
          let there = own_node p found label has in
          firm d (between d (demand.to_base there) there (own_node p found Base tt) apart) refl

      module _ (name entry : Text) (has : HasEntry p name entry) where
        abbrev f : FeatureValue
        f = named_of p.id name

        -- the feature of an entry is a node
        from_node : Contains nodes f
        from_node = own_node p found (Named name) (has.0, has.1)

        -- an entry leads to what the package has
        entry_leads : (form : FormValue) (label : LabelValue) → IsDemand w.packages w.links (leads form f (feature_of p label)) → is_firm form ≡ true → HasLabel p label → feature_eq f (feature_of p label) ≡ false → s f ≡ true → s (feature_of p label) ≡ true
        entry_leads form label is always there apart =
            let d = leads form f (feature_of p label) in
            firm d (between d is from_node (own_node p found label there) apart) always

        module _ (dependency feature : Text) (link : Link) (line : Line) (to : LeadsTo w table p dependency feature link line) (apart : feature_eq f (named_of link.to feature) ≡ false) where
          abbrev target : FeatureValue
          target = named_of link.to feature

          -- a strong entry leads to a feature of a dependency
          strong_leads : IsEntry entry (Strong dependency feature) → s f ≡ true → s target ≡ true
          strong_leads reads =
              let (place, at) = place_of w.links link line to.listed to.counts.declared in
              let d = leads_by (StrongSlash dependency) f target place in
              lined place link line at to.counts d (between d (demand.strong_line listed has reads at to.from to.named) from_node (target_node link feature to.target) apart) refl refl (sym to.from)

          -- so does a weak one, by an optional line where the set has the dependency
          weak_leads : IsEntry entry (Weak dependency feature) → (line.optional ≡ true → s (dep_of p.id dependency) ≡ true) → s f ≡ true → s target ≡ true
          weak_leads reads over =
              let (place, at) = place_of w.links link line to.listed to.counts.declared in
              let d = leads_by (WeakSlash dependency) f target place in
              let there = λ (optional : line.optional ≡ true). subst (λ n. Contains nodes (dep_of p.id n)) to.named (subst (λ id. Contains nodes (dep_of id link.name)) to.from (dependency_node link to.listed line to.counts.declared optional)) in
              weak place link line at to.counts dependency f target (between d (demand.weak_line listed has reads at to.from to.named) from_node (target_node link feature to.target) apart) (sym to.from) (λ optional. (there optional, over optional))

    -- each rule with a premise leads on
    leads_on : (r : Rule) → IsRule w no_choice table r → (r.premises ≡ None → ⊥) → is_among r r.premises ≡ false → has_premises s r.premises ≡ true → s r.conclusion ≡ true
    leads_on r (member_base found member) some apart on = absurd (some refl)
    leads_on r (member_default found member standard has) some apart on = absurd (some refl)
    leads_on r (member_named found member standard has) some apart on = absurd (some refl)
    leads_on r (member_dep found member standard has) some apart on = absurd (some refl)
    leads_on r (extra h) some apart on = absurd (some refl)
    leads_on r (named_base {p = p} {name = name} found has) some apart on = base_leads p found (Named name) has apart on
    leads_on r (dep_base {p = p} {name = name} found has) some apart on = base_leads p found (Dep name) has apart on
    leads_on r (own_entry {p = p} {name = name} {entry = entry} {other = other} found has reads there) some apart on =
        entry_leads p found name entry has NamedFeature (Named other) (demand.to_own (listed p found) has reads) refl there apart on
    leads_on r (dependency_entry {p = p} {name = name} {entry = entry} {dependency = dependency} found has reads there) some apart on =
        entry_leads p found name entry has NamedFeatureDepColon (Dep dependency) (demand.to_dependency (listed p found) has reads) refl there apart on
    leads_on r (strong_feature {p = p} {name = name} {entry = entry} {dependency = dependency} {feature = feature} {link = link} {line = line} found has reads to) some apart on =
        strong_leads p found name entry has dependency feature link line to apart reads on
    leads_on r (strong_dependency {p = p} {name = name} {entry = entry} {dependency = dependency} found has reads there) some apart on =
        entry_leads p found name entry has NamedFeatureDepColon (Dep dependency) (demand.strong_dependency (listed p found) has reads) refl there apart on
    leads_on r (strong_name {p = p} {name = name} {entry = entry} {dependency = dependency} found has reads optional there) some apart on =
        let dep = dep_of p.id dependency in
        let is : is_node nodes dep ≡ true = list_any-from_Contains (feature_eq dep) nodes dep (own_node p found (Dep dependency) optional) ((features_decide dep dep).1 refl) in
        entry_leads p found name entry has NamedFeature (Named dependency) (demand.strong_name (listed p found) has reads is) refl there apart on
    leads_on r (weak_required {p = p} {name = name} {entry = entry} {dependency = dependency} {feature = feature} {link = link} {line = line} found has reads to required) some apart on =
        weak_leads p found name entry has dependency feature link line to apart reads (λ optional. absurd (true≢false (sym optional ∙ required))) on
    leads_on r (weak_optional {p = p} {name = name} {entry = entry} {dependency = dependency} {feature = feature} {link = link} {line = line} found has reads to optional) some apart on =
        let from = named_of p.id name in
        let dep = dep_of p.id dependency in
        let target = named_of link.to feature in
        let both = and_parts (s from) (s dep) on in
        weak_leads p found name entry has dependency feature link line to (or_parts (feature_eq from target) (feature_eq dep target) apart).0 reads (λ _. both.1) both.0
    leads_on r (line_base {link = link} {line = line} within counts) some apart on =
        line_leads link line (base_of link.to) within counts (Contains-first _ _) (base_node link.to (ends link within).1) apart on
    leads_on r (line_default {link = link} {line = line} within counts asked to) some apart on =
        line_leads link line (named_of link.to default_name) within counts (asks_default link line asked) (target_node link default_name to) apart on
    leads_on r (line_feature {link = link} {line = line} {name = name} within counts asked to) some apart on =
        line_leads link line (named_of link.to name) within counts (asks_feature link line name asked) (target_node link name to) apart on

-- a set that is closed under what the rows demand is closed under the rules that hold under each choice
pub rules_closed : (w : Workspace) (table : PlatformTable) (g : FeatureGraphValue) (s : FeatureSet) → IsGraphOf w g → AreDemandsClosed table g (kept_demands (nodes_of w.packages) (demands_of w.packages w.links)) (nodes_of w.packages) (λ v. s (feature_at g v) ≡ true) → AreRulesClosed (standing_rules w table) s
rules_closed w table g s graph closed r h =
    leads_on w table g s graph closed r (standing_cases w graph.kept.ids_apart table r h) (has_premise w graph.kept.ids_apart table r h)
