-- The list of rules holds exactly the rules of the record.
use Rattle.std.proofs.Common.{◌≡◌, Bool, true, false, cond, ◌&&◌, List, [], ◌∷◌, ◌++◌, map, filter, Option, Some, None, Contains, refl, sym, ◌∙◌, subst, ⊎_elim, ◌↔◌, flat_map}
use Rattle.std.specs.Bool.{Decides}
use Rattle.std.specs.Option.{option_map_or}
use Rattle.std.proofs.lemmas.Bool.{and_parts, and_from, cond_both, cond-true, cond-false}
use Rattle.std.proofs.lemmas.Bool.Decides.{Decides-and, Decides-like}
use Rattle.std.proofs.lemmas.Slice.Eq.{bytes_eq-Decides}
use Rattle.list_facts.proofs.Membership.{Contains-none, Contains-first, Contains-rest, Contains-cons_cases, Contains-cons_elim, Contains-append_left, Contains-append_right, Contains-append_cases, Contains-map, Contains-map_cases, Contains-filter, Contains-filter_cases, Contains-flat_map, Contains-flat_map_cases}
use Rattle.workspace_record.specs.Records.{Text, FeatureEntry, Package, Line, Link, Workspace}
use Rattle.workspace_record.specs.Features.{FeatureValue}
use Rattle.workspace_record.specs.Choices.{Choice}
use Rattle.workspace_record.specs.declared.choice.PlatformTable.{PlatformTable}
use Rattle.workspace_record.specs.declared.kinds.Standard.{Standard}
use Rattle.workspace_record.specs.declared.kinds.Standard.TheVariants as standard
use Rattle.workspace_record.specs.Entries.{EntryValue, OwnFeature, Dependency, Strong, Weak, entry_value}
use Rattle.feature_account_rules.specs.IsEntry.{IsEntry}
use Rattle.feature_account_rules.specs.IsRule.{IsFound, IsMember, HasFeature, HasEntry, TargetHas, IsInForce, Counts, LeadsTo, IsRule, member_base, member_default, member_named, member_dep, extra, named_base, dep_base, own_entry, dependency_entry, strong_feature, strong_dependency, strong_name, weak_required, weak_optional, line_base, line_default, line_feature}
use Rattle.feature_account_rules.specs.Lines.{package_of, first_of_each, is_member, counting_lines}
use Rattle.feature_account_rules.specs.RuleList.{base_of, named_of, dep_of, given, implies, both_imply, has_feature, has_optional, own_features, default_name, standard_features, member_features, chosen_features, base_rules, is_slash_link, slash_lines, dependency_features, strong_targets, strong_features, weak_rule, weak_rules, rules_of_entry, feature_rules, entry_rules, line_start, asked_features, line_features, line_rules, link_rules, rule_list}
use Rattle.feature_account_rules.specs.declared.rule.Rule.{Rule}
use Rattle.feature_account_rules.proofs.EntryReading.{entry_reads, entry_unique}
use Rattle.feature_account_rules.proofs.LineFacts.{named-Decides, finds-first_of_each, Contains-first_of_each, is_member-Decides, counting_lines_iff}

-- lists that are there under a test
module _ {X : Type 0} where
  -- where the test passes, what is listed under it is there
  Contains-if : (b : Bool) (xs : List X) (x : X) → b ≡ true → Contains xs x → Contains (cond b xs []) x
  Contains-if b xs x e h = subst (λ ys. Contains ys x) (sym (cond-true b xs [] e)) h

  -- only where the test passes, what is listed under it is there
  Contains-if_cases : (b : Bool) (xs : List X) (x : X) → Contains (cond b xs []) x → (b ≡ true) × Contains xs x
  Contains-if_cases true xs x h = (refl, h)
  Contains-if_cases false xs x h = absurd (Contains-none x h)

  -- where the test passes, one element listed under it is there
  Contains-one_if : (b : Bool) (x : X) → b ≡ true → Contains (cond b (x ∷ []) []) x
  Contains-one_if b x e = Contains-if b (x ∷ []) x e (Contains-first x [])

  -- only where the test passes, one element listed under it is there
  Contains-one_if_cases : (b : Bool) (y x : X) → Contains (cond b (y ∷ []) []) x → (b ≡ true) × (y ≡ x)
  Contains-one_if_cases b y x h =
      let on = Contains-if_cases b (y ∷ []) x h in
      (on.0, ⊎_elim (λ e. e) (λ none. absurd (Contains-none x none)) (Contains-cons_cases y [] x on.1))

-- the test for a feature of the package
has_feature-Decides : (p : Package) (name : Text) → Decides (has_feature p name) (HasFeature p name)
has_feature-Decides p name =
    Decides-like (has_feature p name) (λ f. (f.0.enables, subst (λ t. Contains p.features (record { name = t; enables = f.0.enables })) f.2 f.1)) (λ f. (record { name = name; enables = f.0 }, f.1, refl)) (named-Decides (λ f. f.name) p.features name)

-- the test for an optional dependency of the package
has_optional-Decides : (p : Package) (name : Text) → Decides (has_optional p name) (Contains p.optional name)
has_optional-Decides p name =
    Decides-like (has_optional p name) (λ x. subst (Contains p.optional) x.2 x.1) (λ i. (name, i, refl)) (named-Decides (λ x. x) p.optional name)

-- the test for a feature of a package that may not be found
some_has-Decides : (o : Option Package) (name : Text) → Decides (option_map_or (λ p. has_feature p name) o false) ((p : Package) × (o ≡ Some p) × HasFeature p name)
some_has-Decides None name = (λ h. absurd cc, λ t. let e = t.1 in absurd cc)
some_has-Decides (Some q) name =
    (λ h. (q, refl, (has_feature-Decides q name).0 h), λ t. let e : t.0 ≡ q = let f = t.1 in cc in (has_feature-Decides q name).1 (subst (λ x. HasFeature x name) e t.2))

-- the test for a link of an entry with a slash
is_slash_link-Decides : (w : Workspace) (p : Package) (name feature : Text) (link : Link) → Decides (is_slash_link w p name feature link) (((p.id ≡ link.from) × (name ≡ link.name)) × TargetHas w link feature)
is_slash_link-Decides w p name feature link =
    Decides-and _ _ (Decides-and _ _ (bytes_eq-Decides p.id link.from) (bytes_eq-Decides name link.name)) (some_has-Decides (package_of w link.to) feature)

-- what a package has beside its base
module _ (p : Package) where
  -- the features that it names, and then its optional dependencies
  abbrev named_features : List FeatureValue
  named_features = map (λ (e : FeatureEntry). named_of p.id e.name) p.features

  abbrev dep_features : List FeatureValue
  dep_features = map (dep_of p.id) p.optional

  -- it is each feature that the package names, and each optional dependency
  own_features_elim : (P : FeatureValue → Type 0) → ((name : Text) → HasFeature p name → P (named_of p.id name)) → ((name : Text) → Contains p.optional name → P (dep_of p.id name)) → (f : FeatureValue) → Contains (own_features p) f → P f
  own_features_elim P named dep f h =
      ⊎_elim (λ n. let x = Contains-map_cases (λ (e : FeatureEntry). named_of p.id e.name) p.features f n in subst P x.2 (named x.0.name (x.0.enables, x.1))) (λ d. let x = Contains-map_cases (dep_of p.id) p.optional f d in subst P x.2 (dep x.0 x.1)) (Contains-append_cases named_features dep_features f h)

  -- a feature that the package names is its own
  Contains-own_named : (name : Text) → HasFeature p name → Contains (own_features p) (named_of p.id name)
  Contains-own_named name h =
      Contains-append_left named_features dep_features (named_of p.id name) (Contains-map (λ (e : FeatureEntry). named_of p.id e.name) p.features (record { name = name; enables = h.0 }) h.1)

  -- an optional dependency is its own
  Contains-own_dep : (name : Text) → Contains p.optional name → Contains (own_features p) (dep_of p.id name)
  Contains-own_dep name h =
      Contains-append_right named_features dep_features (dep_of p.id name) (Contains-map (dep_of p.id) p.optional name h)

module _ (w : Workspace) (choice : Choice) (table : PlatformTable) where
  -- it is a rule of the record
  abbrev Is : Rule → Type 0
  Is = IsRule w choice table

  -- the parts of the list: the rules of the choice, of the packages, of the entries and of the links
  abbrev given_rules : List Rule
  given_rules = map given (chosen_features w choice)

  abbrev package_rules : List Rule
  package_rules = flat_map base_rules (first_of_each w.packages)

  abbrev all_entry_rules : List Rule
  all_entry_rules = flat_map (entry_rules w table) (first_of_each w.packages)

  abbrev all_link_rules : List Rule
  all_link_rules = flat_map (link_rules w table) w.links

  -- what the standard choice switches on in a member is given by a rule
  standard_is : (p : Package) → IsFound w p → IsMember w p.id → (s : Standard) → choice.standard ≡ s → (f : FeatureValue) → Contains (standard_features s p) f → Is (given f)
  standard_is p found member standard.None e f h = absurd (Contains-none f h)
  standard_is p found member standard.Default e f h =
      let listed = Contains-one_if_cases (has_feature p default_name) (named_of p.id default_name) f h in
      subst (λ g. Is (given g)) listed.1 (member_default {p = p} found member e ((has_feature-Decides p default_name).0 listed.0))
  standard_is p found member standard.All e f h =
      own_features_elim p (λ g. Is (given g)) (λ name has. member_named {p = p} found member e has) (λ name has. member_dep {p = p} found member e has) f h

  -- what the choice switches on is given by a rule
  chosen_is : (f : FeatureValue) → Contains (chosen_features w choice) f → Is (given f)
  chosen_is f h =
      ⊎_elim (λ own.
      let p = Contains-flat_map_cases (member_features w choice.standard) (first_of_each w.packages) f own in
      let found = finds-first_of_each w.packages p.0 p.1 in
      let on = Contains-if_cases (is_member w p.0.id) (base_of p.0.id ∷ standard_features choice.standard p.0) f p.2 in
      let member = (is_member-Decides w p.0.id).0 on.0 in
      Contains-cons_elim (λ g. Is (given g)) (base_of p.0.id) (standard_features choice.standard p.0) (member_base {p = p.0} found member) (standard_is p.0 found member choice.standard refl) f on.1) (λ x. extra x) (Contains-append_cases (flat_map (member_features w choice.standard) (first_of_each w.packages)) choice.extras f h)

  -- each rule of the choice is one
  choice_is : (r : Rule) → Contains given_rules r → Is r
  choice_is r h = let f = Contains-map_cases given (chosen_features w choice) r h in subst Is f.2 (chosen_is f.0 f.1)

  -- what is on in a member is listed
  member_listed : (p : Package) → IsFound w p → IsMember w p.id → (f : FeatureValue) → Contains (base_of p.id ∷ standard_features choice.standard p) f → Contains given_rules (given f)
  member_listed p found member f h =
      Contains-map given (chosen_features w choice) f (Contains-append_left (flat_map (member_features w choice.standard) (first_of_each w.packages)) choice.extras f (Contains-flat_map (member_features w choice.standard) (first_of_each w.packages) p f (Contains-first_of_each w.packages p found) (Contains-if (is_member w p.id) (base_of p.id ∷ standard_features choice.standard p) f ((is_member-Decides w p.id).1 member) h)))

  -- what the standard choice switches on in a member is listed
  standard_listed : (p : Package) → IsFound w p → IsMember w p.id → (s : Standard) → choice.standard ≡ s → (f : FeatureValue) → Contains (standard_features s p) f → Contains given_rules (given f)
  standard_listed p found member s e f h =
      member_listed p found member f (Contains-rest (base_of p.id) (standard_features choice.standard p) f (subst (λ t. Contains (standard_features t p) f) (sym e) h))

  -- each extra is listed
  extra_listed : (f : FeatureValue) → Contains choice.extras f → Contains given_rules (given f)
  extra_listed f h =
      Contains-map given (chosen_features w choice) f (Contains-append_right (flat_map (member_features w choice.standard) (first_of_each w.packages)) choice.extras f h)

  -- each rule of a package is one
  base_is : (r : Rule) → Contains package_rules r → Is r
  base_is r h =
      let p = Contains-flat_map_cases base_rules (first_of_each w.packages) r h in
      let found = finds-first_of_each w.packages p.0 p.1 in
      let f = Contains-map_cases (λ g. implies g (base_of p.0.id)) (own_features p.0) r p.2 in
      subst Is f.2 (own_features_elim p.0 (λ g. Is (implies g (base_of p.0.id))) (λ name has. named_base {p = p.0} found has) (λ name has. dep_base {p = p.0} found has) f.0 f.1)

  -- each of a package's own features is listed as leading to the package
  base_listed : (p : Package) → IsFound w p → (f : FeatureValue) → Contains (own_features p) f → Contains package_rules (implies f (base_of p.id))
  base_listed p found f h =
      Contains-flat_map base_rules (first_of_each w.packages) p (implies f (base_of p.id)) (Contains-first_of_each w.packages p found) (Contains-map (λ g. implies g (base_of p.id)) (own_features p) f h)

  -- a line of a link by which a package's entry with a slash leads on
  leads_to : (p : Package) (name feature : Text) (link : Link) (line : Line) → Contains w.links link → Contains (slash_lines w table p name feature link) line → LeadsTo w table p name feature link line
  leads_to p name feature link line listed h =
      let on = Contains-if_cases (is_slash_link w p name feature link) (counting_lines w table link) line h in
      let here = (is_slash_link-Decides w p name feature link).0 on.0 in
      record {
        listed = listed;
        from = sym here.0.0;
        named = sym here.0.1;
        target = here.1;
        counts = (counting_lines_iff w table link line).0 on.1;
      }

  -- each such line is listed
  Contains-slash_lines : (p : Package) (name feature : Text) (link : Link) (line : Line) → LeadsTo w table p name feature link line → Contains (slash_lines w table p name feature link) line
  Contains-slash_lines p name feature link line leads =
      Contains-if (is_slash_link w p name feature link) (counting_lines w table link) line ((is_slash_link-Decides w p name feature link).1 ((sym leads.from, sym leads.named), leads.target)) ((counting_lines_iff w table link line).1 leads.counts)

  -- the rules of an entry
  module _ (p : Package) (found : IsFound w p) (name entry : Text) (has : HasEntry p name entry) where
    -- the feature that has the entry
    abbrev start : FeatureValue
    start = named_of p.id name

    -- what a strong entry says of the dependency itself is a rule
    dependency_is : (dependency feature : Text) → IsEntry entry (Strong dependency feature) → (f : FeatureValue) → Contains (dependency_features p dependency) f → Is (implies start f)
    dependency_is dependency feature reads f h =
        let on = Contains-if_cases (has_optional p dependency) (dep_of p.id dependency ∷ cond (has_feature p dependency) (named_of p.id dependency ∷ []) []) f h in
        let optional = (has_optional-Decides p dependency).0 on.0 in
        Contains-cons_elim (λ g. Is (implies start g)) (dep_of p.id dependency) (cond (has_feature p dependency) (named_of p.id dependency ∷ []) []) (strong_dependency {p = p} found has reads optional) (λ g i.
        let named = Contains-one_if_cases (has_feature p dependency) (named_of p.id dependency) g i in
        subst (λ x. Is (implies start x)) named.1 (strong_name {p = p} found has reads optional ((has_feature-Decides p dependency).0 named.0))) f on.1

    -- what a strong entry leads to is the conclusion of a rule
    strong_is : (dependency feature : Text) → IsEntry entry (Strong dependency feature) → (f : FeatureValue) → Contains (strong_features w table p dependency feature) f → Is (implies start f)
    strong_is dependency feature reads f h =
        ⊎_elim (λ t.
        let link = Contains-flat_map_cases (strong_targets w table p dependency feature) w.links f t in
        let line = Contains-map_cases (λ (_ : Line). named_of link.0.to feature) (slash_lines w table p dependency feature link.0) f link.2 in
        subst (λ x. Is (implies start x)) line.2 (strong_feature {p = p} found has reads (leads_to p dependency feature link.0 line.0 link.1 line.1))) (dependency_is dependency feature reads f) (Contains-append_cases (flat_map (strong_targets w table p dependency feature) w.links) (dependency_features p dependency) f h)

    -- what a weak entry says by a line is a rule
    weak_is : (dependency feature : Text) → IsEntry entry (Weak dependency feature) → (link : Link) (line : Line) → LeadsTo w table p dependency feature link line → Is (weak_rule start p dependency (named_of link.to feature) line)
    weak_is dependency feature reads link line leads =
        cond_both line.optional (both_imply start (dep_of p.id dependency) (named_of link.to feature)) (implies start (named_of link.to feature)) Is (λ e. weak_optional {p = p} found has reads leads e) (λ e. weak_required {p = p} found has reads leads e)

    -- each rule of the entry is one
    entry_is : (v : EntryValue) → IsEntry entry v → (r : Rule) → Contains (rules_of_entry w table p start v) r → Is r
    entry_is (OwnFeature other) reads r h =
        let on = Contains-one_if_cases (has_feature p other) (implies start (named_of p.id other)) r h in
        subst Is on.1 (own_entry {p = p} found has reads ((has_feature-Decides p other).0 on.0))
    entry_is (Dependency dependency) reads r h =
        let on = Contains-one_if_cases (has_optional p dependency) (implies start (dep_of p.id dependency)) r h in
        subst Is on.1 (dependency_entry {p = p} found has reads ((has_optional-Decides p dependency).0 on.0))
    entry_is (Strong dependency feature) reads r h =
        let f = Contains-map_cases (implies start) (strong_features w table p dependency feature) r h in
        subst Is f.2 (strong_is dependency feature reads f.0 f.1)
    entry_is (Weak dependency feature) reads r h =
        let link = Contains-flat_map_cases (weak_rules w table p start dependency feature) w.links r h in
        let line = Contains-map_cases (weak_rule start p dependency (named_of link.0.to feature)) (slash_lines w table p dependency feature link.0) r link.2 in
        subst Is line.2 (weak_is dependency feature reads link.0 line.0 (leads_to p dependency feature link.0 line.0 link.1 line.1))

    -- what the entry says is listed
    entry_listed : (v : EntryValue) → IsEntry entry v → (r : Rule) → Contains (rules_of_entry w table p start v) r → Contains all_entry_rules r
    entry_listed v reads r h =
        let here = subst (λ x. Contains (rules_of_entry w table p start x) r) (entry_unique entry v reads) h in
        Contains-flat_map (entry_rules w table) (first_of_each w.packages) p r (Contains-first_of_each w.packages p found) (Contains-flat_map (feature_rules w table p) p.features (record { name = name; enables = has.0 }) r has.1 (Contains-flat_map (λ e. rules_of_entry w table p start (entry_value e)) has.0 entry r has.2 here))

    -- what a strong entry leads to is listed
    strong_listed : (dependency feature : Text) → IsEntry entry (Strong dependency feature) → (f : FeatureValue) → Contains (strong_features w table p dependency feature) f → Contains all_entry_rules (implies start f)
    strong_listed dependency feature reads f h =
        entry_listed (Strong dependency feature) reads (implies start f) (Contains-map (implies start) (strong_features w table p dependency feature) f h)

    -- the feature of a dependency is listed, by each line
    target_listed : (dependency feature : Text) → IsEntry entry (Strong dependency feature) → (link : Link) (line : Line) → LeadsTo w table p dependency feature link line → Contains all_entry_rules (implies start (named_of link.to feature))
    target_listed dependency feature reads link line leads =
        strong_listed dependency feature reads (named_of link.to feature) (Contains-append_left (flat_map (strong_targets w table p dependency feature) w.links) (dependency_features p dependency) _ (Contains-flat_map (strong_targets w table p dependency feature) w.links link _ leads.listed (Contains-map (λ (_ : Line). named_of link.to feature) (slash_lines w table p dependency feature link) line (Contains-slash_lines p dependency feature link line leads))))

    -- the optional dependency and the feature of its name are listed
    optional_listed : (dependency feature : Text) → IsEntry entry (Strong dependency feature) → Contains p.optional dependency → (f : FeatureValue) → Contains (dep_of p.id dependency ∷ cond (has_feature p dependency) (named_of p.id dependency ∷ []) []) f → Contains all_entry_rules (implies start f)
    optional_listed dependency feature reads optional f h =
        strong_listed dependency feature reads f (Contains-append_right (flat_map (strong_targets w table p dependency feature) w.links) (dependency_features p dependency) f (Contains-if (has_optional p dependency) _ f ((has_optional-Decides p dependency).1 optional) h))

    -- what a weak entry says by a line is listed
    weak_listed : (dependency feature : Text) → IsEntry entry (Weak dependency feature) → (link : Link) (line : Line) → LeadsTo w table p dependency feature link line → Contains all_entry_rules (weak_rule start p dependency (named_of link.to feature) line)
    weak_listed dependency feature reads link line leads =
        entry_listed (Weak dependency feature) reads _ (Contains-flat_map (weak_rules w table p start dependency feature) w.links link _ leads.listed (Contains-map (weak_rule start p dependency (named_of link.to feature)) (slash_lines w table p dependency feature link) line (Contains-slash_lines p dependency feature link line leads)))

  -- each rule of an entry is one
  entries_are : (r : Rule) → Contains all_entry_rules r → Is r
  entries_are r h =
      let p = Contains-flat_map_cases (entry_rules w table) (first_of_each w.packages) r h in
      let f = Contains-flat_map_cases (feature_rules w table p.0) p.0.features r p.2 in
      let e = Contains-flat_map_cases (λ x. rules_of_entry w table p.0 (named_of p.0.id f.0.name) (entry_value x)) f.0.enables r f.2 in
      entry_is p.0 (finds-first_of_each w.packages p.0 p.1) f.0.name e.0 (f.0.enables, f.1, e.1) (entry_value e.0) (entry_reads e.0) r e.2

  -- only of a target that is found a line asks for anything
  asked_cases : (id : Text) (line : Line) (o : Option Package) (f : FeatureValue) → Contains (option_map_or (asked_features id line) o []) f → (p : Package) × (o ≡ Some p) × Contains (asked_features id line p) f
  asked_cases id line None f h = absurd (Contains-none f h)
  asked_cases id line (Some p) f h = (p, refl, h)

  -- what a line leads to is the conclusion of a rule
  line_is : (link : Link) (line : Line) → Contains w.links link → Counts w table link line → (f : FeatureValue) → Contains (line_features w link line) f → Is (implies (line_start link line) f)
  line_is link line listed counted =
      Contains-cons_elim (λ g. Is (implies (line_start link line) g)) (base_of link.to) _ (line_base listed counted) (λ f h.
      let asked = asked_cases link.to line (package_of w link.to) f h in
      let default_test = line.default_features && has_feature asked.0 default_name in
      ⊎_elim (λ d.
      let on = Contains-one_if_cases default_test (named_of link.to default_name) f d in
      let both = and_parts line.default_features (has_feature asked.0 default_name) on.0 in
      subst (λ g. Is (implies (line_start link line) g)) on.1 (line_default listed counted both.0 (asked.0, asked.1, (has_feature-Decides asked.0 default_name).0 both.1))) (λ n.
      let name = Contains-map_cases (named_of link.to) (filter (has_feature asked.0) line.features) f n in
      let kept = Contains-filter_cases (has_feature asked.0) line.features name.0 name.1 in
      subst (λ g. Is (implies (line_start link line) g)) name.2 (line_feature listed counted kept.0 (asked.0, asked.1, (has_feature-Decides asked.0 name.0).0 kept.1))) (Contains-append_cases (cond default_test (named_of link.to default_name ∷ []) []) (map (named_of link.to) (filter (has_feature asked.0) line.features)) f asked.2))

  -- each rule of a link is one
  links_are : (r : Rule) → Contains all_link_rules r → Is r
  links_are r h =
      let link = Contains-flat_map_cases (link_rules w table) w.links r h in
      let line = Contains-flat_map_cases (line_rules w link.0) (counting_lines w table link.0) r link.2 in
      let f = Contains-map_cases (implies (line_start link.0 line.0)) (line_features w link.0 line.0) r line.2 in
      subst Is f.2 (line_is link.0 line.0 link.1 ((counting_lines_iff w table link.0 line.0).0 line.1) f.0 f.1)

  -- what a line that counts leads to is listed
  line_listed : (link : Link) (line : Line) → Contains w.links link → Counts w table link line → (f : FeatureValue) → Contains (line_features w link line) f → Contains all_link_rules (implies (line_start link line) f)
  line_listed link line listed counted f h =
      Contains-flat_map (link_rules w table) w.links link _ listed (Contains-flat_map (line_rules w link) (counting_lines w table link) line _ ((counting_lines_iff w table link line).1 counted) (Contains-map (implies (line_start link line)) (line_features w link line) f h))

  -- what a line that counts asks for of its target is listed
  asked_listed : (link : Link) (line : Line) → Contains w.links link → Counts w table link line → (p : Package) → package_of w link.to ≡ Some p → (f : FeatureValue) → Contains (asked_features link.to line p) f → Contains all_link_rules (implies (line_start link line) f)
  asked_listed link line listed counted p e f h =
      line_listed link line listed counted f (Contains-rest (base_of link.to) _ f (subst (λ o. Contains (option_map_or (asked_features link.to line) o []) f) (sym e) h))

  -- each rule of the list is one
  list_cases : (r : Rule) → Contains (rule_list w choice table) r → Is r
  list_cases r h =
      ⊎_elim (choice_is r) (λ a. ⊎_elim (base_is r) (λ b. ⊎_elim (entries_are r) (links_are r) (Contains-append_cases all_entry_rules all_link_rules r b)) (Contains-append_cases package_rules (all_entry_rules ++ all_link_rules) r a)) (Contains-append_cases given_rules (package_rules ++ (all_entry_rules ++ all_link_rules)) r h)

  -- each part of the list stands in it
  in_choice : (r : Rule) → Contains given_rules r → Contains (rule_list w choice table) r
  in_choice r = Contains-append_left given_rules (package_rules ++ (all_entry_rules ++ all_link_rules)) r

  in_rest : (r : Rule) → Contains (package_rules ++ (all_entry_rules ++ all_link_rules)) r → Contains (rule_list w choice table) r
  in_rest r = Contains-append_right given_rules (package_rules ++ (all_entry_rules ++ all_link_rules)) r

  in_packages : (r : Rule) → Contains package_rules r → Contains (rule_list w choice table) r
  in_packages r h = in_rest r (Contains-append_left package_rules (all_entry_rules ++ all_link_rules) r h)

  in_entries : (r : Rule) → Contains all_entry_rules r → Contains (rule_list w choice table) r
  in_entries r h =
      in_rest r (Contains-append_right package_rules (all_entry_rules ++ all_link_rules) r (Contains-append_left all_entry_rules all_link_rules r h))

  in_links : (r : Rule) → Contains all_link_rules r → Contains (rule_list w choice table) r
  in_links r h =
      in_rest r (Contains-append_right package_rules (all_entry_rules ++ all_link_rules) r (Contains-append_right all_entry_rules all_link_rules r h))

  -- each rule is listed
  is_listed : (r : Rule) → Is r → Contains (rule_list w choice table) r
  is_listed r (member_base {p = p} found member) = in_choice _ (member_listed p found member _ (Contains-first (base_of p.id) _))
  is_listed r (member_default {p = p} found member e has) =
      in_choice _ (standard_listed p found member standard.Default e _ (Contains-one_if (has_feature p default_name) _ ((has_feature-Decides p default_name).1 has)))
  is_listed r (member_named {p = p} {name = name} found member e has) =
      in_choice _ (standard_listed p found member standard.All e _ (Contains-own_named p name has))
  is_listed r (member_dep {p = p} {name = name} found member e has) =
      in_choice _ (standard_listed p found member standard.All e _ (Contains-own_dep p name has))
  is_listed r (extra {f = f} h) = in_choice _ (extra_listed f h)
  is_listed r (named_base {p = p} {name = name} found has) = in_packages _ (base_listed p found _ (Contains-own_named p name has))
  is_listed r (dep_base {p = p} {name = name} found has) = in_packages _ (base_listed p found _ (Contains-own_dep p name has))
  is_listed r (own_entry {p = p} {name = name} {entry = entry} {other = other} found has reads named) =
      in_entries _ (entry_listed p found name entry has (OwnFeature other) reads _ (Contains-one_if (has_feature p other) _ ((has_feature-Decides p other).1 named)))
  is_listed r (dependency_entry {p = p} {name = name} {entry = entry} {dependency = dependency} found has reads optional) =
      in_entries _ (entry_listed p found name entry has (Dependency dependency) reads _ (Contains-one_if (has_optional p dependency) _ ((has_optional-Decides p dependency).1 optional)))
  is_listed r (strong_feature {p = p} {name = name} {entry = entry} {dependency = dependency} {feature = feature} {link = link} {line = line} found has reads leads) =
      in_entries _ (target_listed p found name entry has dependency feature reads link line leads)
  is_listed r (strong_dependency {p = p} {name = name} {entry = entry} {dependency = dependency} {feature = feature} found has reads optional) =
      in_entries _ (optional_listed p found name entry has dependency feature reads optional _ (Contains-first _ _))
  is_listed r (strong_name {p = p} {name = name} {entry = entry} {dependency = dependency} {feature = feature} found has reads optional named) =
      in_entries _ (optional_listed p found name entry has dependency feature reads optional _ (Contains-rest _ _ _ (Contains-one_if (has_feature p dependency) _ ((has_feature-Decides p dependency).1 named))))
  is_listed r (weak_required {p = p} {name = name} {entry = entry} {dependency = dependency} {feature = feature} {link = link} {line = line} found has reads leads e) =
      in_entries _ (subst (Contains all_entry_rules) (cond-false line.optional _ _ e) (weak_listed p found name entry has dependency feature reads link line leads))
  is_listed r (weak_optional {p = p} {name = name} {entry = entry} {dependency = dependency} {feature = feature} {link = link} {line = line} found has reads leads e) =
      in_entries _ (subst (Contains all_entry_rules) (cond-true line.optional _ _ e) (weak_listed p found name entry has dependency feature reads link line leads))
  is_listed r (line_base {link = link} {line = line} listed counted) = in_links _ (line_listed link line listed counted _ (Contains-first _ _))
  is_listed r (line_default {link = link} {line = line} listed counted asks has) =
      in_links _ (asked_listed link line listed counted has.0 has.1 _ (Contains-append_left _ _ _ (Contains-one_if (line.default_features && has_feature has.0 default_name) _ (and_from _ _ asks ((has_feature-Decides has.0 default_name).1 has.2)))))
  is_listed r (line_feature {link = link} {line = line} {name = name} listed counted inside has) =
      in_links _ (asked_listed link line listed counted has.0 has.1 _ (Contains-append_right _ _ _ (Contains-map (named_of link.to) _ name (Contains-filter (has_feature has.0) line.features name inside ((has_feature-Decides has.0 name).1 has.2)))))

  -- a rule stands in the list exactly if it is one of the record's rules
  pub rule_list_iff : (r : Rule) → Contains (rule_list w choice table) r ↔ IsRule w choice table r
  rule_list_iff r = (list_cases r, is_listed r)

-- a rule stays one where the standard choice is the same, the extras are among the new ones, and what is in force stays so
module _ (w : Workspace) (choice more : Choice) (old new : PlatformTable) (same : more.standard ≡ choice.standard) (extras_stay : (f : FeatureValue) → Contains choice.extras f → Contains more.extras f) (force_stays : (spec : Option Text) → IsInForce old spec → IsInForce new spec) where
  -- a line that counts still counts
  Counts-grows : (link : Link) (line : Line) → Counts w old link line → Counts w new link line
  Counts-grows link line c = record { declared = c.declared; in_force = force_stays line.spec c.in_force; in_workspace = c.in_workspace }

  -- what leads on still does
  LeadsTo-grows : (p : Package) (name feature : Text) (link : Link) (line : Line) → LeadsTo w old p name feature link line → LeadsTo w new p name feature link line
  LeadsTo-grows p name feature link line l =
      record { listed = l.listed; from = l.from; named = l.named; target = l.target; counts = Counts-grows link line l.counts }

  -- a rule is still one
  IsRule-grows : (r : Rule) → IsRule w choice old r → IsRule w more new r
  IsRule-grows r (member_base {p = p} found member) = member_base {p = p} found member
  IsRule-grows r (member_default {p = p} found member e has) = member_default {p = p} found member (same ∙ e) has
  IsRule-grows r (member_named {p = p} found member e has) = member_named {p = p} found member (same ∙ e) has
  IsRule-grows r (member_dep {p = p} found member e has) = member_dep {p = p} found member (same ∙ e) has
  IsRule-grows r (extra {f = f} h) = extra (extras_stay f h)
  IsRule-grows r (named_base {p = p} found has) = named_base {p = p} found has
  IsRule-grows r (dep_base {p = p} found has) = dep_base {p = p} found has
  IsRule-grows r (own_entry {p = p} found has reads named) = own_entry {p = p} found has reads named
  IsRule-grows r (dependency_entry {p = p} found has reads optional) = dependency_entry {p = p} found has reads optional
  IsRule-grows r (strong_feature {p = p} found has reads leads) = strong_feature {p = p} found has reads (LeadsTo-grows _ _ _ _ _ leads)
  IsRule-grows r (strong_dependency {p = p} found has reads optional) = strong_dependency {p = p} found has reads optional
  IsRule-grows r (strong_name {p = p} found has reads optional named) = strong_name {p = p} found has reads optional named
  IsRule-grows r (weak_required {p = p} found has reads leads e) = weak_required {p = p} found has reads (LeadsTo-grows _ _ _ _ _ leads) e
  IsRule-grows r (weak_optional {p = p} found has reads leads e) = weak_optional {p = p} found has reads (LeadsTo-grows _ _ _ _ _ leads) e
  IsRule-grows r (line_base listed counted) = line_base listed (Counts-grows _ _ counted)
  IsRule-grows r (line_default listed counted asks has) = line_default listed (Counts-grows _ _ counted) asks has
  IsRule-grows r (line_feature listed counted inside has) = line_feature listed (Counts-grows _ _ counted) inside has

  -- so the list of rules only grows
  pub rule_list-grows : (r : Rule) → Contains (rule_list w choice old) r → Contains (rule_list w more new) r
  rule_list-grows r h = (rule_list_iff w more new r).1 (IsRule-grows r ((rule_list_iff w choice old r).0 h))
