-- The same lines count for the rules of a record and for what its feature graph's rows demand.
use Rattle.std.proofs.Common.{◌≡◌, ℕ, ◌&&◌, true, [], get_or, find, option_and_then, slice_get, Contains, Some, is_some, refl, sym, subst, ap, ◌∙◌}
use Rattle.std.specs.Str.{bytes_eq}
use Rattle.std.proofs.lemmas.Bool.{and_from, and_parts}
use Rattle.std.proofs.lemmas.List.Elements.{All-contains}
use Rattle.std.proofs.lemmas.Slice.Eq.{bytes_eq-Decides}
use Rattle.list_facts.proofs.Membership.{Contains-filter, Contains-filter_cases}
use Rattle.list_facts.proofs.Quantifiers.{Any_cases, list_any-from_Contains}
use Rattle.workspace_record.specs.Records.{Text, Line, Link, Workspace, WorkspaceDetails}
use Rattle.workspace_record.specs.Features.{FeatureValue}
use Rattle.workspace_record.specs.declared.choice.PlatformTable.{PlatformTable}
use Rattle.guppy_package_rules.specs.Kept.{IsPackageId}
use Rattle.workspace_record.proofs.PackageFacts.{some-find}
use Rattle.feature_account_rules.specs.IsRule.{Counts}
use Rattle.feature_account_rules.specs.Lines.{counts, counts_for, is_in_force, is_member, is_workspace_package}
use Rattle.feature_account.proofs.AccountFacts.{Contains-slice_get}
use Rattle.feature_account_rules.proofs.LineFacts.{counting_lines_iff}
use Rattle.guppy_package_parts.specs.Lines.{line_at}
use Rattle.guppy_package_table.specs.Tables.{member_of}
use Rattle.guppy_feature_demands.specs.Nodes.{base_of, nodes_of, number_of}
use Rattle.guppy_feature_nodes.specs.Graphs.{FeatureGraphValue, feature_at}
use Rattle.guppy_feature_nodes.proofs.DistinctFacts.{at_number, number_known}
use Rattle.test_select_feature_laws.specs.Demands.{CountsAt}
use Rattle.test_select_feature_laws.specs.RecordGraphs.{IsGraphOf}
use Rattle.test_select_feature_laws.proofs.DemandFacts.{IsPlaced}

module _ (w : Workspace) (g : FeatureGraphValue) (graph : IsGraphOf w g) where
  -- a feature of the record's packages stands at its number
  pub node_at : (f : FeatureValue) → Contains (nodes_of w.packages) f → feature_at g (number_of (nodes_of w.packages) f) ≡ f
  node_at f h =
      let nodes = nodes_of w.packages in
      ap (λ ns. get_or ns (number_of nodes f) (base_of [])) (graph.built.nodes ∙ ap nodes_of graph.packages) ∙ at_number nodes f (number_known nodes f h)

  -- a package is the workspace's where the graph has a member with its id
  pub source_alike : (id : Text) → IsPackageId w.packages id → is_workspace_package w id ≡ is_some (member_of g.rows id)
  source_alike id known =
      let (p, listed, is) = Any_cases (λ p. p.id ≡ id) w.packages known in
      ap (λ b. b && is_member w id) (list_any-from_Contains (λ p. bytes_eq id p.id) w.packages p listed ((bytes_eq-Decides id p.id).1 (sym is))) ∙ sym (some-find (λ m. bytes_eq id m.package_id) w.workspace.members) ∙ ap (λ (d : WorkspaceDetails). is_some (find (λ m. bytes_eq id m.package_id) d.members)) (sym graph.workspace)

  module _ (table : PlatformTable) (v : ℕ) (place : ℕ × ℕ) (link : Link) (line : Line) (placed : IsPlaced w.links place link line) (from : (feature_at g v).package_id ≡ link.from) where
    -- the line stands at its place in the graph's rows
    there : line_at g.rows.links place ≡ Some line
    there = ap (λ links. line_at links place) graph.links ∙ ap (option_and_then (λ l. slice_get l.lines place.1)) placed.link_at ∙ placed.line_at

    -- its source is the workspace's for the rules where it is for the graph
    source : is_workspace_package w link.from ≡ is_some (member_of g.rows (feature_at g v).package_id)
    source = source_alike link.from (All-contains (λ l. IsPackageId w.packages l.from × IsPackageId w.packages l.to) w.links link graph.kept.ends_known (Contains-slice_get w.links place.0 link placed.link_at)).0 ∙ ap (λ id. is_some (member_of g.rows id)) (sym from)

    -- a line that counts for the graph counts for the rules
    pub counts_there : CountsAt table g v place → Counts w table link line
    counts_there c =
        let same : c.line ≡ line = let e = sym c.at ∙ there in cc in
        let kind = ap (λ b. counts_for b line.kind) source ∙ subst (λ (l : Line). counts_for (is_some (member_of g.rows (feature_at g v).package_id)) l.kind ≡ true) same c.counts_by_kind in
        let force = subst (λ (l : Line). is_in_force table l.spec ≡ true) same c.in_force in
        (counting_lines_iff w table link line).0 (Contains-filter (counts w table link.from) link.lines line (Contains-slice_get link.lines place.1 line placed.line_at) (and_from _ (is_in_force table line.spec) kind force))

    -- a line that counts for the rules counts for the graph
    pub counts_here : Counts w table link line → (c : CountsAt table g v place) × (c.line ≡ line)
    counts_here c =
        let (listed, pass) = Contains-filter_cases (counts w table link.from) link.lines line ((counting_lines_iff w table link line).1 c) in
        let (kind, force) = and_parts (counts_for (is_workspace_package w link.from) line.kind) (is_in_force table line.spec) pass in
        (record { line = line; at = there; counts_by_kind = ap (λ b. counts_for b line.kind) (sym source) ∙ kind; in_force = force }, refl)
