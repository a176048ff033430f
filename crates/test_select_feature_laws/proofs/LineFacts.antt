-- Where lines that are on lead from, and to.
use Rattle.std.proofs.Common.{◌≡◌, Bool, true, false, if◌then◌else◌, Contains, None, refl, sym, subst}
use Rattle.list_facts.proofs.Membership.{Contains-filter}
use Rattle.workspace_record.specs.Records.{Text, Line, Link, Package, Workspace}
use Rattle.workspace_record.specs.Choices.{Choice}
use Rattle.workspace_record.specs.declared.choice.PlatformTable.{PlatformTable}
use Rattle.feature_account_rules.specs.Closed.{IsOn}
use Rattle.feature_account_rules.specs.IsRule.{Counts, IsFound, dep_base, line_base}
use Rattle.feature_account_rules.specs.Lines.{counts}
use Rattle.feature_account_rules.specs.RuleList.{base_of, dep_of, implies, line_start, rule_list}
use Rattle.feature_account_rules.proofs.LineFacts.{counting_lines_iff}
use Rattle.feature_account_rules.proofs.RuleFacts.{rule_list_iff}
use Rattle.guppy_package_rules.specs.Kept.{IsPackageId}
use Rattle.test_select_rules.specs.RecordRules.{fault_of}
use Rattle.test_select_rules.specs.OnLines.{LineIsOn}
use Rattle.test_select_feature_laws.specs.RecordGraphs.{HasOptionalNames}
use Rattle.test_select_feature_laws.proofs.StandingFacts.{found_alone}
use Rattle.test_select_feature_laws.proofs.KeptFacts.{optional_named, rows_kept}

module _ (w : Workspace) (choice : Choice) (table : PlatformTable) where
  -- a line that is on counts
  counted : (link : Link) (line : Line) → LineIsOn w table (IsOn (rule_list w choice table)) link line → Counts w table link line
  counted link line on =
      (counting_lines_iff w table link line).0 (Contains-filter (counts w table link.from) link.lines line on.declared on.counts)

  -- the target of a line that is on is on
  pub target_is_on : (link : Link) (line : Line) → Contains w.links link → LineIsOn w table (IsOn (rule_list w choice table)) link line → IsOn (rule_list w choice table) (base_of link.to)
  target_is_on link line listed on s closed =
      closed (implies (line_start link line) (base_of link.to)) ((rule_list_iff w choice table (implies (line_start link line) (base_of link.to))).1 (line_base listed (counted link line on))) (on.start s closed)

  -- an optional dependency that is on switches its package on
  package_is_on : (p : Package) (name : Text) → IsFound w p → Contains p.optional name → IsOn (rule_list w choice table) (dep_of p.id name) → IsOn (rule_list w choice table) (base_of p.id)
  package_is_on p name found has on s closed =
      closed (implies (dep_of p.id name) (base_of p.id)) ((rule_list_iff w choice table (implies (dep_of p.id name) (base_of p.id))).1 (dep_base found has)) (on s closed)

  -- the source of a line that is on is on
  pub source_is_on : fault_of w ≡ None → (link : Link) (line : Line) → Contains w.links link → LineIsOn w table (IsOn (rule_list w choice table)) link line → IsOn (rule_list w choice table) (base_of link.from)
  source_is_on kept link line listed on = by line.optional refl on.start
    where
      by : (optional : Bool) → line.optional ≡ optional → IsOn (rule_list w choice table) (if optional then dep_of link.from link.name else base_of link.from) → IsOn (rule_list w choice table) (base_of link.from)
      by false required start = start
      by true optional start =
          let ends = subst (λ (l : Link). IsPackageId w.packages l.from × IsPackageId w.packages l.to) listed.2 ((rows_kept w kept).ends_known listed.0 link listed.1) in
          let source = ends.0.1 in
          let there : Contains w.packages source = (ends.0.0, ends.0.2, ends.0.3) in
          let has = subst (HasOptionalNames w.packages) listed.2 (optional_named w kept listed.0 link listed.1) source there ends.0.4 line on.declared optional in
          let dependency = subst (λ (id : Text). IsOn (rule_list w choice table) (dep_of id link.name)) (sym ends.0.4) start in
          subst (λ (id : Text). IsOn (rule_list w choice table) (base_of id)) ends.0.4 (package_is_on source link.name (found_alone w (rows_kept w kept).ids_apart source there) has dependency)
