-- Links that are on, in records that list the same in whichever order.
use Rattle.std.proofs.Common.{◌≡◌, refl, sym, ap, subst, ◌∙◌, ◌≢◌, Bool, true, ◌&&◌, List, AllPairs, Contains, filter}
use Rattle.std.proofs.lemmas.Bool.{and_from, and_parts}
use Rattle.std.specs.List.{list_any}
use Rattle.std.specs.Str.{bytes_eq}
use Rattle.list_facts.proofs.Membership.{Contains-filter, Contains-filter_cases, Contains-map, Contains-map_cases}
use Rattle.list_facts.proofs.Quantifiers.{list_any-from_Contains, list_any_cases}
use Rattle.workspace_record.specs.Records.{Line, Link, Member, Package, Text, Workspace, WorkspaceDetails}
use Rattle.workspace_record.specs.Features.{FeatureValue}
use Rattle.workspace_record.specs.declared.choice.PlatformTable.{PlatformTable}
use Rattle.workspace_record.specs.declared.kinds.LineKind.{LineKind}
use Rattle.workspace_record.specs.declared.kinds.LineKind.TheVariants.{Normal, Build, Dev}
use Rattle.feature_account.specs.Accounts.{concluded_set}
use Rattle.feature_account_rules.specs.Lines.{counts_for, is_in_force, is_workspace_package}
use Rattle.feature_account_rules.specs.RuleList.{line_start}
use Rattle.feature_account_rules.proofs.LineFacts.{is_workspace_package-Decides}
use Rattle.guppy_package_table.specs.Tables.{IsTableOf, TableValue}
use Rattle.test_select_features.specs.LinesOn.{is_line_on, is_link_on, links_on, rows_of, with_lines_on}
use Rattle.test_select_feature_laws.specs.Laws.{IsLineReordered, IsLinkReordered, IsReordered}
use Rattle.test_select_feature_laws.proofs.OrderFacts.{start_same, workspace_there}

-- a line that counts, counts where its source is a workspace package too
counts_there : (here there : Bool) (kind : LineKind) → (here ≡ true → there ≡ true) → counts_for here kind ≡ true → counts_for there kind ≡ true
counts_there here there Normal too h = refl
counts_there here there Build too h = refl
counts_there here there Dev too h = too h

-- workspace packages are told by the packages and the members
in_rows : (w : Workspace) (g : TableValue) → IsTableOf w.packages w.links w.workspace g → (id : Text) → is_workspace_package (rows_of g) id ≡ is_workspace_package w id
in_rows w g of_w id =
    ap (λ (ps : List Package). list_any (λ (p : Package). bytes_eq id p.id) ps && list_any (λ (m : Member). bytes_eq id m.package_id) g.workspace.members) of_w.rows
    ∙ ap (λ (ws : WorkspaceDetails). list_any (λ (p : Package). bytes_eq id p.id) w.packages && list_any (λ (m : Member). bytes_eq id m.package_id) ws.members) of_w.workspace_row

module _ (w v : Workspace) (apart : AllPairs (λ a b. a.id ≢ b.id) w.packages) (other : AllPairs (λ a b. a.id ≢ b.id) v.packages) (same : IsReordered w v) where
  module _ (d e : TableValue) (of_w : IsTableOf w.packages w.links w.workspace d) (of_v : IsTableOf v.packages v.links v.workspace e) (on : List FeatureValue) (table : PlatformTable) where
    source_there : (id : Text) → is_workspace_package (rows_of d) id ≡ true → is_workspace_package (rows_of e) id ≡ true
    source_there id h =
        in_rows v e of_v id ∙ (is_workspace_package-Decides v id).1 (workspace_there w v apart other same id ((is_workspace_package-Decides w id).0 (sym (in_rows w d of_w id) ∙ h)))

    module _ (l m : Link) (like : IsLinkReordered l m) where
      line_there : (x y : Line) → IsLineReordered x y → is_line_on d on table l x ≡ true → is_line_on e on table m y ≡ true
      line_there x y one h =
          let here = is_workspace_package (rows_of d) l.from in
          let there = is_workspace_package (rows_of e) m.from in
          let (counted, starts) = and_parts (counts_for here x.kind && is_in_force table x.spec) (concluded_set on (line_start l x)) h in
          let (counts, in_force) = and_parts (counts_for here x.kind) (is_in_force table x.spec) counted in
          let source : here ≡ true → there ≡ true = λ i. subst (λ id. is_workspace_package (rows_of e) id ≡ true) like.from (source_there l.from i) in
          let counts_too : counts_for there y.kind ≡ true = subst (λ k. counts_for there k ≡ true) one.kind (counts_there here there x.kind source counts) in
          let in_force_too : is_in_force table y.spec ≡ true = subst (λ s. is_in_force table s ≡ true) one.spec in_force in
          let starts_too : concluded_set on (line_start m y) ≡ true = subst (λ f. concluded_set on f ≡ true) (start_same l m like x y one) starts in
          and_from (counts_for there y.kind && is_in_force table y.spec) (concluded_set on (line_start m y)) (and_from (counts_for there y.kind) (is_in_force table y.spec) counts_too in_force_too) starts_too

      link_there : is_link_on d on table l ≡ true → is_link_on e on table m ≡ true
      link_there h =
          let (x, listed, is_on) = list_any_cases (is_line_on d on table l) l.lines h in
          let (y, there, one) = like.lines.0 x listed in
          list_any-from_Contains (is_line_on e on table m) m.lines y there (line_there x y one is_on)

    -- a link that is on has its like among those that are on
    pub on_there : (k : Link) → Contains (links_on d on table) k → (m : Link) × Contains (links_on e on table) m × (k.from ≡ m.from) × (k.to ≡ m.to)
    on_there k h =
        let (l, among, is) = Contains-map_cases (with_lines_on d on table) (filter (is_link_on d on table) d.links) k h in
        let (listed, is_on) = Contains-filter_cases (is_link_on d on table) d.links l among in
        let (m, there, like) = same.links.0 l (subst (λ (ls : List Link). Contains ls l) of_w.link_rows listed) in
        let inside : Contains e.links m = subst (λ (ls : List Link). Contains ls m) (sym of_v.link_rows) there in
        let kept = Contains-map (with_lines_on e on table) (filter (is_link_on e on table) e.links) m (Contains-filter (is_link_on e on table) e.links m inside (link_there l m like is_on)) in
        (with_lines_on e on table m, kept, ap (λ (x : Link). x.from) (sym is) ∙ like.from, ap (λ (x : Link). x.to) (sym is) ∙ like.to)

-- both ends of a link that is on are those of a declared one
pub on_declared : (d : TableValue) (on : List FeatureValue) (table : PlatformTable) (k : Link) → Contains (links_on d on table) k → (l : Link) × Contains d.links l × (l.from ≡ k.from) × (l.to ≡ k.to)
on_declared d on table k h =
    let (l, among, is) = Contains-map_cases (with_lines_on d on table) (filter (is_link_on d on table) d.links) k h in
    (l, (Contains-filter_cases (is_link_on d on table) d.links l among).0, ap (λ (x : Link). x.from) is, ap (λ (x : Link). x.to) is)
