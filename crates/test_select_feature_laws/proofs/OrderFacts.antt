-- Rules stay in another order of packages, links and members, and of what stands in them.
use Rattle.std.proofs.Common.{◌≡◌, ◌≢◌, List, cond, Some, AllPairs, Contains, sym, ap, subst, ◌∙◌}
use Rattle.workspace_record.specs.Records.{FeatureEntry, Text, Line, Link, Package, Workspace}
use Rattle.workspace_record.specs.Choices.{Choice}
use Rattle.workspace_record.specs.Features.{FeatureValue}
use Rattle.workspace_record.specs.declared.choice.PlatformTable.{PlatformTable}
use Rattle.feature_account_rules.specs.Closed.{IsOn}
use Rattle.feature_account_rules.specs.IsRule.{Counts, HasEntry, HasFeature, IsFound, IsInForce, IsInWorkspace, IsMember, IsRule, LeadsTo, TargetHas, member_base, member_default, member_named, member_dep, extra, named_base, dep_base, own_entry, dependency_entry, strong_feature, strong_dependency, strong_name, weak_required, weak_optional, line_base, line_default, line_feature}
use Rattle.feature_account_rules.specs.Lines.{package_of}
use Rattle.feature_account_rules.specs.RuleList.{base_of, both_imply, default_name, dep_of, given, implies, line_start, named_of, rule_list}
use Rattle.feature_account_rules.specs.declared.rule.Rule.{Rule}
use Rattle.feature_account_rules.proofs.RuleFacts.{rule_list_iff}
use Rattle.test_select_feature_laws.proofs.StandingFacts.{found_alone, found_cases}
use Rattle.test_select_feature_laws.specs.Laws.{HaveAlike, IsFeatureReordered, IsLineReordered, IsLinkReordered, IsPackageReordered, IsReordered}

-- likes in the other direction
pub turned_alike : {X : Type 0} (Like : X → X → Type 0) → ((x y : X) → Like x y → Like y x) → (xs ys : List X) → HaveAlike Like xs ys → HaveAlike Like ys xs
turned_alike Like turn xs ys h = (
  λ y there. let (x, here, like) = h.1 y there in (x, here, turn x y like),
  λ x here. let (y, there, like) = h.0 x here in (y, there, turn x y like),
)

turned_feature : (f g : FeatureEntry) → IsFeatureReordered f g → IsFeatureReordered g f
turned_feature f g h = record { name = sym h.name; enables = λ e. ((h.enables e).1, (h.enables e).0) }

pub turned_package : (p q : Package) → IsPackageReordered p q → IsPackageReordered q p
turned_package p q h = record {
  id = sym h.id;
  features = turned_alike IsFeatureReordered turned_feature p.features q.features h.features;
  optional = λ n. ((h.optional n).1, (h.optional n).0);
}

turned_line : (l m : Line) → IsLineReordered l m → IsLineReordered m l
turned_line l m h = record {
  kind = sym h.kind;
  optional = sym h.optional;
  default_features = sym h.default_features;
  features = λ n. ((h.features n).1, (h.features n).0);
  spec = sym h.spec;
}

turned_link : (l m : Link) → IsLinkReordered l m → IsLinkReordered m l
turned_link l m h = record { from = sym h.from; to = sym h.to; name = sym h.name; lines = turned_alike IsLineReordered turned_line l.lines m.lines h.lines }

pub turned : (w v : Workspace) → IsReordered w v → IsReordered v w
turned w v same = record {
  packages = turned_alike IsPackageReordered turned_package w.packages v.packages same.packages;
  links = turned_alike IsLinkReordered turned_link w.links v.links same.links;
  members = λ m. ((same.members m).1, (same.members m).0);
}

-- what a package has, its like has
module _ (p q : Package) (like : IsPackageReordered p q) where
  entry_there : (name entry : Text) → HasEntry p name entry → HasEntry q name entry
  entry_there name entry h =
      let (f, listed, one) = like.features.0 (record { name = name; enables = h.0 }) h.1 in
      (f.enables, subst (λ n. Contains q.features (record { name = n; enables = f.enables })) (sym one.name) listed, (one.enables entry).0 h.2)

  feature_there : (name : Text) → HasFeature p name → HasFeature q name
  feature_there name h =
      let (f, listed, one) = like.features.0 (record { name = name; enables = h.0 }) h.1 in
      (f.enables, subst (λ n. Contains q.features (record { name = n; enables = f.enables })) (sym one.name) listed)

  optional_there : (name : Text) → Contains p.optional name → Contains q.optional name
  optional_there name h = (like.optional name).0 h

-- a line starts where its like does
pub start_same : (l m : Link) (like : IsLinkReordered l m) (x y : Line) → IsLineReordered x y → line_start l x ≡ line_start m y
start_same l m like x y one =
    ap (λ t. cond x.optional (dep_of t l.name) (base_of t)) like.from ∙ ap (λ t. cond x.optional (dep_of m.from t) (base_of m.from)) like.name ∙ ap (λ b. cond b (dep_of m.from m.name) (base_of m.from)) one.optional

module _ (w v : Workspace) (apart : AllPairs (λ a b. a.id ≢ b.id) w.packages) (other : AllPairs (λ a b. a.id ≢ b.id) v.packages) (same : IsReordered w v) where
  -- where an id finds a package, it finds its like there
  package_there : (id : Text) (p : Package) → package_of w id ≡ Some p → (q : Package) × (package_of v id ≡ Some q) × IsPackageReordered p q
  package_there id p found =
      let (listed, is_its) = found_cases w apart id p found in
      let (q, there, like) = same.packages.0 p listed in
      (q, ap (package_of v) (sym is_its ∙ like.id) ∙ found_alone v other q there, like)

  found_there : (p : Package) → IsFound w p → (q : Package) × IsFound v q × IsPackageReordered p q
  found_there p found =
      let (q, there, like) = package_there p.id p found in
      (q, subst (λ id. package_of v id ≡ Some q) like.id there, like)

  member_there : (id : Text) → IsMember w id → IsMember v id
  member_there id h = (h.0, (same.members (record { package_id = id; path = h.0 })).0 h.1)

  pub workspace_there : (id : Text) → IsInWorkspace w id → IsInWorkspace v id
  workspace_there id h =
      let (q, there, like) = same.packages.0 h.0.0 h.0.1 in
      ((q, there, sym like.id ∙ h.0.2), member_there id h.1)

  module _ (l m : Link) (like : IsLinkReordered l m) where
    target_there : (name : Text) → TargetHas w l name → TargetHas v m name
    target_there name h =
        let (q, found, one) = package_there l.to h.0 h.1 in
        (q, subst (λ id. package_of v id ≡ Some q) like.to found, feature_there h.0 q one name h.2)

    counts_there : (table : PlatformTable) (x : Line) → Counts w table l x → (y : Line) × Counts v table m y × IsLineReordered x y
    counts_there table x h =
        let (y, declared, one) = like.lines.0 x h.declared in
        let counted : Counts v table m y = record {
          declared = declared;
          in_force = subst (IsInForce table) one.spec h.in_force;
          in_workspace = λ dev. subst (IsInWorkspace v) like.from (workspace_there l.from (h.in_workspace (one.kind ∙ dev)));
        } in
        (y, counted, one)

  module _ (choice : Choice) (table : PlatformTable) where
    abbrev Is : Rule → Type 0
    Is = IsRule v choice table

    leads_there : (p q : Package) → IsPackageReordered p q → (name feature : Text) (l : Link) (x : Line) → LeadsTo w table p name feature l x → (m : Link) × (y : Line) × LeadsTo v table q name feature m y × (l.to ≡ m.to) × (x.optional ≡ y.optional)
    leads_there p q like name feature l x h =
        let (m, listed, one) = same.links.0 l h.listed in
        let (y, counted, line) = counts_there l m one table x h.counts in
        let leads : LeadsTo v table q name feature m y = record {
          listed = listed;
          from = sym one.from ∙ h.from ∙ like.id;
          named = sym one.name ∙ h.named;
          target = target_there l m one feature h.target;
          counts = counted;
        } in
        (m, y, leads, one.to, line.optional)

    -- a rule of the package that is found, under the id of its like
    under : (p q : Package) → IsPackageReordered p q → (rule : Text → Rule) → Is (rule q.id) → Is (rule p.id)
    under p q like rule h = subst (λ id. Is (rule id)) (sym like.id) h

    -- each rule stays
    rule_there : (r : Rule) → IsRule w choice table r → Is r
    rule_there r (member_base {p = p} found member) =
        let (q, there, like) = found_there p found in
        under p q like (λ id. given (base_of id)) (member_base there (subst (IsMember v) like.id (member_there p.id member)))
    rule_there r (member_default {p = p} found member standard has) =
        let (q, there, like) = found_there p found in
        under p q like (λ id. given (named_of id default_name)) (member_default there (subst (IsMember v) like.id (member_there p.id member)) standard (feature_there p q like default_name has))
    rule_there r (member_named {p = p} {name = name} found member standard has) =
        let (q, there, like) = found_there p found in
        under p q like (λ id. given (named_of id name)) (member_named there (subst (IsMember v) like.id (member_there p.id member)) standard (feature_there p q like name has))
    rule_there r (member_dep {p = p} {name = name} found member standard has) =
        let (q, there, like) = found_there p found in
        under p q like (λ id. given (dep_of id name)) (member_dep there (subst (IsMember v) like.id (member_there p.id member)) standard (optional_there p q like name has))
    rule_there r (extra asked) = extra asked
    rule_there r (named_base {p = p} {name = name} found has) =
        let (q, there, like) = found_there p found in
        under p q like (λ id. implies (named_of id name) (base_of id)) (named_base there (feature_there p q like name has))
    rule_there r (dep_base {p = p} {name = name} found has) =
        let (q, there, like) = found_there p found in
        under p q like (λ id. implies (dep_of id name) (base_of id)) (dep_base there (optional_there p q like name has))
    rule_there r (own_entry {p = p} {name = name} {entry = entry} {other = another} found listed reads has) =
        let (q, there, like) = found_there p found in
        under p q like (λ id. implies (named_of id name) (named_of id another)) (own_entry there (entry_there p q like name entry listed) reads (feature_there p q like another has))
    rule_there r (dependency_entry {p = p} {name = name} {entry = entry} {dependency = dependency} found listed reads has) =
        let (q, there, like) = found_there p found in
        under p q like (λ id. implies (named_of id name) (dep_of id dependency)) (dependency_entry there (entry_there p q like name entry listed) reads (optional_there p q like dependency has))
    rule_there r (strong_feature {p = p} {name = name} {entry = entry} {dependency = dependency} {feature = feature} {link = link} {line = line} found listed reads leads) =
        let (q, there, like) = found_there p found in
        let (m, y, again, to, optional) = leads_there p q like dependency feature link line leads in
        under p q like (λ id. implies (named_of id name) (named_of link.to feature)) (subst (λ id. Is (implies (named_of q.id name) (named_of id feature))) (sym to) (strong_feature there (entry_there p q like name entry listed) reads again))
    rule_there r (strong_dependency {p = p} {name = name} {entry = entry} {dependency = dependency} found listed reads has) =
        let (q, there, like) = found_there p found in
        under p q like (λ id. implies (named_of id name) (dep_of id dependency)) (strong_dependency there (entry_there p q like name entry listed) reads (optional_there p q like dependency has))
    rule_there r (strong_name {p = p} {name = name} {entry = entry} {dependency = dependency} found listed reads optional has) =
        let (q, there, like) = found_there p found in
        under p q like (λ id. implies (named_of id name) (named_of id dependency)) (strong_name there (entry_there p q like name entry listed) reads (optional_there p q like dependency optional) (feature_there p q like dependency has))
    rule_there r (weak_required {p = p} {name = name} {entry = entry} {dependency = dependency} {feature = feature} {link = link} {line = line} found listed reads leads required) =
        let (q, there, like) = found_there p found in
        let (m, y, again, to, optional) = leads_there p q like dependency feature link line leads in
        under p q like (λ id. implies (named_of id name) (named_of link.to feature)) (subst (λ id. Is (implies (named_of q.id name) (named_of id feature))) (sym to) (weak_required there (entry_there p q like name entry listed) reads again (sym optional ∙ required)))
    rule_there r (weak_optional {p = p} {name = name} {entry = entry} {dependency = dependency} {feature = feature} {link = link} {line = line} found listed reads leads is_optional) =
        let (q, there, like) = found_there p found in
        let (m, y, again, to, optional) = leads_there p q like dependency feature link line leads in
        under p q like (λ id. both_imply (named_of id name) (dep_of id dependency) (named_of link.to feature)) (subst (λ id. Is (both_imply (named_of q.id name) (dep_of q.id dependency) (named_of id feature))) (sym to) (weak_optional there (entry_there p q like name entry listed) reads again (sym optional ∙ is_optional)))
    rule_there r (line_base {link = link} {line = line} listed counted) =
        let (m, there, like) = same.links.0 link listed in
        let (y, counts, one) = counts_there link m like table line counted in
        subst (λ id. Is (implies (line_start link line) (base_of id))) (sym like.to) (subst (λ f. Is (implies f (base_of m.to))) (sym (start_same link m like line y one)) (line_base there counts))
    rule_there r (line_default {link = link} {line = line} listed counted asks has) =
        let (m, there, like) = same.links.0 link listed in
        let (y, counts, one) = counts_there link m like table line counted in
        subst (λ id. Is (implies (line_start link line) (named_of id default_name))) (sym like.to) (subst (λ f. Is (implies f (named_of m.to default_name))) (sym (start_same link m like line y one)) (line_default there counts (sym one.default_features ∙ asks) (target_there link m like default_name has)))
    rule_there r (line_feature {link = link} {line = line} {name = name} listed counted asked has) =
        let (m, there, like) = same.links.0 link listed in
        let (y, counts, one) = counts_there link m like table line counted in
        subst (λ id. Is (implies (line_start link line) (named_of id name))) (sym like.to) (subst (λ f. Is (implies f (named_of m.to name))) (sym (start_same link m like line y one)) (line_feature there counts ((one.features name).0 asked) (target_there link m like name has)))

    -- what is on stays on
    pub stays_on : (f : FeatureValue) → IsOn (rule_list w choice table) f → IsOn (rule_list v choice table) f
    stays_on f on s closed =
        on s (λ r listed. closed r ((rule_list_iff v choice table r).1 (rule_there r ((rule_list_iff w choice table r).0 listed))))
