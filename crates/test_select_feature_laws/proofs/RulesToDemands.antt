-- A set that is closed under the rules is closed under what the rows demand.
use Rattle.std.proofs.Common.{◌≡◌, ℕ, ◌<◌, ◌||◌, codes, cond, length, map, true, false, Bool, List, [], ◌∷◌, ◌++◌, Contains, Some, option_and_then, slice_get, refl, sym, ◌∙◌, ap, subst, ⊎_elim}
use Rattle.std.proofs.lemmas.Bool.{and_from, cases_Bool, false≢true}
use Rattle.list_facts.proofs.Membership.{Contains-none, Contains-append_cases, Contains-cons_cases, Contains-map_cases}
use Rattle.list_facts.proofs.Quantifiers.{list_any_cases}
use Rattle.workspace_record.specs.Records.{Text, Line, Link, Package, Workspace}
use Rattle.workspace_record.specs.Features.{LabelValue, Base, Named, Dep, FeatureValue, feature_eq, features_decide}
use Rattle.workspace_record.specs.declared.choice.PlatformTable.{PlatformTable}
use Rattle.feature_account_rules.specs.Closed.{FeatureSet}
use Rattle.workspace_record.specs.Entries.{Weak}
use Rattle.feature_account_rules.specs.IsEntry.{IsEntry}
use Rattle.feature_account_rules.specs.IsRule as rules
use Rattle.feature_account_rules.specs.IsRule.{Counts, HasEntry, IsFound, IsRule, LeadsTo, TargetHas}
use Rattle.feature_account_rules.specs.Lines.{package_of}
use Rattle.feature_account_rules.specs.RuleList.{both_imply, implies}
use Rattle.feature_account.proofs.AccountFacts.{Contains-slice_get}
use Rattle.guppy_feature_demands.specs.Demands.{DemandValue, NumberedValue, WeakSlash, default_of, demands_of, kept_demands, line_start, line_targets, with_numbers}
use Rattle.guppy_feature_demands.specs.Nodes.{base_of, dep_of, named_of, nodes_of, number_of}
use Rattle.guppy_package_parts.specs.Lines.{line_at}
use Rattle.guppy_feature_nodes.specs.GraphEdges.{waits_for}
use Rattle.guppy_feature_nodes.specs.Graphs.{FeatureGraphValue, feature_at}
use Rattle.test_select_feature_laws.specs.Demands.{AreDemandsClosed, CountsAt, Waits, is_firm, is_lined}
use Rattle.test_select_feature_laws.specs.RecordGraphs.{IsGraphOf}
use Rattle.test_select_feature_laws.specs.Rules.{AreRulesClosed, standing_rules}
use Rattle.test_select_feature_laws.proofs.CountFacts.{counts_there, node_at}
use Rattle.test_select_feature_laws.proofs.DemandFacts.{IsDemand, IsPlaced, to_base, to_own, to_dependency, strong_dependency, strong_name, strong_line, weak_line, by_line, demand_cases}
use Rattle.test_select_feature_laws.proofs.KeptDemandFacts.{IsKept, kept_cases}
use Rattle.test_select_feature_laws.proofs.NodeFacts.{HasLabel, feature_of, node_cases, numbered_node}
use Rattle.test_select_feature_laws.proofs.RecordFacts.{same_by_name}
use Rattle.test_select_feature_laws.proofs.StartFacts.{start_id, waits_at}
use Rattle.test_select_feature_laws.proofs.StandingFacts.{found_alone, no_choice, standing}

-- a line that is placed at a place is placed where that is told
placed_at : (links : List Link) (x place : ℕ × ℕ) (link : Link) (line : Line) → Some place ≡ Some x → IsPlaced links place link line → IsPlaced links x link line
placed_at links x place link line told placed = let same : place ≡ x = cc in subst (λ y. IsPlaced links y link line) same placed

-- an optional dependency is no feature
dep_is_not_named : (id name other_id other : Text) → feature_eq (dep_of id name) (named_of other_id other) ≡ false
dep_is_not_named id name other_id other = ⊎_elim (λ same. let is = (features_decide (dep_of id name) (named_of other_id other)).0 same in absurd cc) (λ no. no) (cases_Bool (feature_eq (dep_of id name) (named_of other_id other)))

module _ (w : Workspace) (table : PlatformTable) (g : FeatureGraphValue) (graph : IsGraphOf w g) where
  abbrev nodes : List FeatureValue
  nodes = nodes_of w.packages

  abbrev Is : FeatureValue → FeatureValue → Type 0
  Is f h = IsRule w no_choice table (implies f h)

  -- a package has what it has as a node
  own_label : (p : Package) → Contains w.packages p → (label : LabelValue) → Contains nodes (feature_of p label) → HasLabel p label
  own_label p listed label h =
      let (q, there, same, has) = node_cases w.packages (feature_of p label) h in
      subst (λ x. HasLabel x label) (same_by_name (λ x. x.id) w.packages graph.kept.ids_apart q p there listed same) has

  -- each package is the one that its id finds
  alone : (p : Package) → Contains w.packages p → IsFound w p
  alone p listed = found_alone w graph.kept.ids_apart p listed

  -- what a node names in the target of a link, the target has
  target_has : (link : Link) (name : Text) → Contains nodes (named_of link.to name) → TargetHas w link name
  target_has link name h =
      let (p, listed, same, has) = node_cases w.packages (named_of link.to name) h in
      (p, ap (package_of w) (sym same) ∙ alone p listed, has)

  -- where what the label names is not the package itself, it leads to the package
  label_leads : (p : Package) → Contains w.packages p → (label : LabelValue) → HasLabel p label → feature_eq (feature_of p label) (base_of p.id) ≡ false → Is (feature_of p label) (base_of p.id)
  label_leads p listed Base has differ = absurd (false≢true (sym differ ∙ (features_decide (base_of p.id) (base_of p.id)).1 refl))
  label_leads p listed (Named name) has differ = rules.named_base {p = p} (alone p listed) has
  label_leads p listed (Dep name) has differ = rules.dep_base {p = p} (alone p listed) has

  -- a node that is not a package leads to its package
  base_leads : (f : FeatureValue) → Contains nodes f → feature_eq f (base_of f.package_id) ≡ false → Is f (base_of f.package_id)
  base_leads f h differ =
      let (p, listed, same, has) = node_cases w.packages f h in
      let leads = λ (id : Text). feature_eq (record { package_id = id; label = f.label }) (base_of id) ≡ false → Is (record { package_id = id; label = f.label }) (base_of id) in
      subst leads same (label_leads p listed f.label has) differ

  -- what leads always leads by a rule
  firm_rule : (d : DemandValue) → IsDemand w.packages w.links d → Contains nodes d.to → feature_eq d.from d.to ≡ false → is_firm d.form ≡ true → Is d.from d.to
  firm_rule d (to_base {f = f} h) to differ firm = base_leads f h differ
  firm_rule d (to_own {p = p} {other = other} listed has reads) to differ firm =
      rules.own_entry {p = p} (alone p listed) has reads (own_label p listed (Named other) to)
  firm_rule d (to_dependency {p = p} {other = other} listed has reads) to differ firm =
      rules.dependency_entry {p = p} (alone p listed) has reads (own_label p listed (Dep other) to)
  firm_rule d (strong_dependency {p = p} {other = other} listed has reads) to differ firm =
      rules.strong_dependency {p = p} (alone p listed) has reads (own_label p listed (Dep other) to)
  firm_rule d (strong_name {p = p} {other = other} listed has reads there) to differ firm =
      let (f, hf, same) = list_any_cases (feature_eq (dep_of p.id other)) nodes there in
      let optional = subst (Contains nodes) (sym ((features_decide (dep_of p.id other) f).0 same)) hf in
      rules.strong_name {p = p} (alone p listed) has reads (own_label p listed (Dep other) optional) (own_label p listed (Named other) to)
  firm_rule d (strong_line listed has reads at from named) to differ firm = absurd (false≢true firm)
  firm_rule d (weak_line listed has reads at from named) to differ firm = absurd (false≢true firm)
  firm_rule d (by_line at h) to differ firm = absurd (false≢true firm)

  -- a line that is placed is of a listed link
  link_listed : (place : ℕ × ℕ) (link : Link) (line : Line) → IsPlaced w.links place link line → Contains w.links link
  link_listed place link line at = Contains-slice_get w.links place.0 link at.link_at

  -- the line that counts at a place is the line that is placed there
  line_is : (v : ℕ) (place : ℕ × ℕ) (link : Link) (line : Line) → IsPlaced w.links place link line → (c : CountsAt table g v place) → c.line ≡ line
  line_is v place link line at c =
      let there : line_at w.links place ≡ Some line = ap (option_and_then (λ (l : Link). slice_get l.lines place.1)) at.link_at ∙ at.line_at in
      let here : line_at w.links place ≡ Some c.line = subst (λ links. line_at links place ≡ Some c.line) graph.links c.at in
      let same : Some c.line ≡ Some line = sym here ∙ there in
      cc

  -- a line that counts for what is demanded from a node of its source counts for the rules
  counted : (f : FeatureValue) → Contains nodes f → (place : ℕ × ℕ) (link : Link) (line : Line) → IsPlaced w.links place link line → f.package_id ≡ link.from → CountsAt table g (number_of nodes f) place → Counts w table link line
  counted f h place link line at from c =
      counts_there w g graph table (number_of nodes f) place link line at (ap (λ (x : FeatureValue). x.package_id) (node_at w g graph f h) ∙ from) c

  module _ (link : Link) (line : Line) (listed : Contains w.links link) (counts : Counts w table link line) (f : FeatureValue) (to : Contains nodes f) where
    -- where the line asks for the default feature, it leads there by a rule
    default_leads : (b : Bool) → line.default_features ≡ b → Contains (cond b (named_of link.to (codes "default") ∷ []) []) f → Is (line_start link line) f
    default_leads false asks h = absurd (Contains-none f h)
    default_leads true asks h =
        ⊎_elim (λ e. subst (Is (line_start link line)) e (rules.line_default listed counts asks (target_has link (codes "default") (subst (Contains nodes) (sym e) to)))) (λ none. absurd (Contains-none f none)) (Contains-cons_cases (named_of link.to (codes "default")) [] f h)

    -- it leads by a rule to each feature that it lists
    listed_leads : Contains (map (named_of link.to) line.features) f → Is (line_start link line) f
    listed_leads h =
        let (name, inside, is) = Contains-map_cases (named_of link.to) line.features f h in
        subst (Is (line_start link line)) is (rules.line_feature listed counts inside (target_has link name (subst (Contains nodes) (sym is) to)))

    -- it leads by a rule to each of its targets
    targets_lead : Contains (line_targets link line) f → Is (line_start link line) f
    targets_lead h =
        let asked = map (named_of link.to) line.features in
        ⊎_elim (λ e. subst (Is (line_start link line)) e (rules.line_base listed counts)) (λ r. ⊎_elim (default_leads line.default_features refl) listed_leads (Contains-append_cases (default_of link.to line) asked f r)) (Contains-cons_cases (base_of link.to) (default_of link.to line ++ asked) f h)

  -- by a line that counts, an entry with a slash leads from a node to a node
  leads_there : (p : Package) (name other feature : Text) (place : ℕ × ℕ) (link : Link) (line : Line) → IsPlaced w.links place link line → link.from ≡ p.id → link.name ≡ other → Contains nodes (named_of p.id name) → Contains nodes (named_of link.to feature) → CountsAt table g (number_of nodes (named_of p.id name)) place → LeadsTo w table p other feature link line
  leads_there p name other feature place link line placed source named from to c =
      record { listed = link_listed place link line placed; from = source; named = named; target = target_has link feature to; counts = counted (named_of p.id name) from place link line placed (sym source) c }

  -- what leads by lines of whichever sort leads by a rule, where the line counts
  lined_rule : (d : DemandValue) → IsDemand w.packages w.links d → Contains nodes d.from → Contains nodes d.to → is_lined d.form ≡ true → (x : ℕ × ℕ) → d.line ≡ Some x → CountsAt table g (number_of nodes d.from) x → Is d.from d.to
  lined_rule d (to_base h) from to lined x at c = absurd (false≢true lined)
  lined_rule d (to_own listed has reads) from to lined x at c = absurd (false≢true lined)
  lined_rule d (to_dependency listed has reads) from to lined x at c = absurd (false≢true lined)
  lined_rule d (strong_dependency listed has reads) from to lined x at c = absurd (false≢true lined)
  lined_rule d (strong_name listed has reads there) from to lined x at c = absurd (false≢true lined)
  lined_rule d (strong_line {p = p} {name = name} {other = other} {x = feature} {place = place} {link = link} {line = line} listed has reads placed source named) from to lined x at c =
      rules.strong_feature {p = p} (alone p listed) has reads (leads_there p name other feature x link line (placed_at w.links x place link line at placed) source named from to c)
  lined_rule d (weak_line listed has reads placed source named) from to lined x at c = absurd (false≢true lined)
  lined_rule d (by_line {place = place} {link = link} {line = line} {f = f} placed h) from to lined x at c =
      targets_lead link line (link_listed place link line placed) (counted (line_start link line) from x link line (placed_at w.links x place link line at placed) (start_id link line) c) f to h

  module _ (s : FeatureSet) (closed : AreRulesClosed (standing_rules w table) s) where
    -- the set goes on along a rule with one premise
    goes_on : (f h : FeatureValue) → Is f h → feature_eq f h ≡ false → s f ≡ true → s h ≡ true
    goes_on f h is differ on = closed (implies f h) (standing w graph.kept.ids_apart table (implies f h) is (λ e. absurd cc)) differ on

    abbrev holds : ℕ → Type 0
    holds v = s (feature_at g v) ≡ true

    -- a node's feature is in the set exactly where its number is held
    here : (f : FeatureValue) → Contains nodes f → holds (number_of nodes f) → s f ≡ true
    here f h on = subst (λ x. s x ≡ true) (node_at w g graph f h) on

    there : (f : FeatureValue) → Contains nodes f → s f ≡ true → holds (number_of nodes f)
    there f h on = subst (λ x. s x ≡ true) (sym (node_at w g graph f h)) on

    -- where it waits, and the node is held, the dependency is in the set
    dependency_on : (f : FeatureValue) → Contains nodes f → (name : Text) → (waits_for nodes (number_of nodes f) name < length g.nodes) × holds (waits_for nodes (number_of nodes f) name) → s (dep_of f.package_id name) ≡ true
    dependency_on f h name waits =
        let count : length g.nodes ≡ length nodes = ap length (graph.built.nodes ∙ ap nodes_of graph.packages) in
        let (known, held) = subst (λ v. (v < length g.nodes) × holds v) (waits_at nodes f h name) waits in
        here (dep_of f.package_id name) (numbered_node nodes (dep_of f.package_id name) (subst (λ n. number_of nodes (dep_of f.package_id name) < n) count known)) held

    module _ (p : Package) (name entry other feature : Text) (link : Link) (line : Line) (listed : Contains w.packages p) (has : HasEntry p name entry) (reads : IsEntry entry (Weak other feature)) (leads : LeadsTo w table p other feature link line) where
      abbrev start : FeatureValue
      start = named_of p.id name

      abbrev end : FeatureValue
      end = named_of link.to feature

      -- a weak entry leads by its line, by an optional one only together with the dependency
      weak_goes : (b : Bool) → line.optional ≡ b → feature_eq start end ≡ false → (line.optional ≡ true → s (dep_of p.id other) ≡ true) → s start ≡ true → s end ≡ true
      weak_goes false required differ dependency on = goes_on start end (rules.weak_required {p = p} (alone p listed) has reads leads required) differ on
      weak_goes true optional differ dependency on =
          let dep = dep_of p.id other in
          let rule = both_imply start dep end in
          closed rule (standing w graph.kept.ids_apart table rule (rules.weak_optional {p = p} (alone p listed) has reads leads optional) (λ e. absurd cc)) (λ i. differ i || dep_is_not_named p.id other link.to feature i) (and_from (s start) (s dep) on (dependency optional))

    -- so does what a weak entry demands
    weak_leads : (d : DemandValue) → IsDemand w.packages w.links d → Contains nodes d.from → Contains nodes d.to → feature_eq d.from d.to ≡ false → (name : Text) → d.form ≡ WeakSlash name → (x : ℕ × ℕ) → d.line ≡ Some x → (c : CountsAt table g (number_of nodes d.from) x) → Waits g nodes holds (number_of nodes d.from) name c.line → s d.from ≡ true → s d.to ≡ true
    weak_leads d (to_base h) from to differ name form x at c waits on = absurd cc
    weak_leads d (to_own listed has reads) from to differ name form x at c waits on = absurd cc
    weak_leads d (to_dependency listed has reads) from to differ name form x at c waits on = absurd cc
    weak_leads d (strong_dependency listed has reads) from to differ name form x at c waits on = absurd cc
    weak_leads d (strong_name listed has reads there) from to differ name form x at c waits on = absurd cc
    weak_leads d (strong_line listed has reads placed source named) from to differ name form x at c waits on = absurd cc
    weak_leads d (by_line placed h) from to differ name form x at c waits on = absurd cc
    weak_leads d (weak_line {p = p} {name = name} {entry = entry} {other = other} {x = feature} {place = place} {link = link} {line = line} listed has reads placed source named) from to differ waited form x at c waits on =
        let there = placed_at w.links x place link line at placed in
        let start = named_of p.id name in
        let same : waited ≡ other = cc in
        weak_goes p name entry other feature link line listed has reads (leads_there p name other feature x link line there source named from to c) line.optional refl differ (λ optional. subst (λ n. s (dep_of p.id n) ≡ true) same (dependency_on start from waited (waits (ap (λ (l : Line). l.optional) (line_is (number_of nodes start) x link line there c) ∙ optional)))) on

    abbrev demands : List DemandValue
    demands = demands_of w.packages w.links

    abbrev Goes : NumberedValue → Type 0
    Goes n = holds n.from → holds n.to

    -- what holds of each demand between two different nodes holds of each that is kept
    each_kept : (P : NumberedValue → Type 0) → ((d : DemandValue) → IsKept nodes demands d → IsDemand w.packages w.links d → P (with_numbers nodes d)) → (n : NumberedValue) → Contains (kept_demands nodes demands) n → P n
    each_kept P each n h =
        let (d, kept, is) = kept_cases nodes demands n h in
        subst P is (each d kept (demand_cases w.packages w.links d kept.demanded))

    -- numbers go on as their features do
    goes_as : (d : DemandValue) → IsKept nodes demands d → (s d.from ≡ true → s d.to ≡ true) → Goes (with_numbers nodes d)
    goes_as d kept goes held = there d.to kept.to (goes (here d.from kept.from held))

-- a set that is closed under the rules that hold under each choice is closed under what the rows demand
pub demands_closed : (w : Workspace) (table : PlatformTable) (g : FeatureGraphValue) (s : FeatureSet) → IsGraphOf w g → AreRulesClosed (standing_rules w table) s → AreDemandsClosed table g (kept_demands (nodes_of w.packages) (demands_of w.packages w.links)) (nodes_of w.packages) (λ v. s (feature_at g v) ≡ true)
demands_closed w table g s graph closed =
    let each = each_kept w table g graph s closed in
    let goes = goes_as w table g graph s closed in
    let goes_by = goes_on w table g graph s closed in
    let Goes = Goes w table g graph s closed in
    let holds = holds w table g graph s closed in
    record {
      firm = each (λ n. is_firm n.form ≡ true → Goes n) (λ d kept is firm. goes d kept (goes_by d.from d.to (firm_rule w table g graph d is kept.to kept.differ firm) kept.differ));
      lined = each (λ n. is_lined n.form ≡ true → (x : ℕ × ℕ) → n.line ≡ Some x → CountsAt table g n.from x → Goes n) (λ d kept is lined x at c. goes d kept (goes_by d.from d.to (lined_rule w table g graph d is kept.from kept.to lined x at c) kept.differ));
      weak = each (λ n. (name : Text) → n.form ≡ WeakSlash name → (x : ℕ × ℕ) → n.line ≡ Some x → (c : CountsAt table g n.from x) → Waits g (nodes_of w.packages) holds n.from name c.line → Goes n) (λ d kept is name form x at c waits. goes d kept (weak_leads w table g graph s closed d is kept.from kept.to kept.differ name form x at c waits));
    }
