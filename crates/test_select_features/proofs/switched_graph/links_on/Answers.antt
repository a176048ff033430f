use Rattle.std.proofs.Common.{rules, ◌≡◌, ◌∙◌, ◌<◌, ◌≤◌, ◌++◌, filter, map, Some, ap, refl, sym, subst, get_or, is_some, length, slice_get}
use Rattle.std.proofs.lemmas.List.{take_all}
use Rattle.std.proofs.lemmas.Option.{slice_get_read}
use Rattle.workspace_record.specs.Records.{Link}
use Rattle.numbered_graph.specs.Links.{link_at}
use Rattle.guppy_package_rules.specs.Kept.{AreKept, IsPackageId}
use Rattle.guppy_package_table.specs.Tables.{member_path_at, numbered_links}
use Rattle.guppy_package_graph.specs.Views.{graph_of, number_of, place_of}
use Rattle.feature_account_rules.specs.Lines.{is_workspace_package}
use Rattle.test_select_features.specs.LinesOn.{is_link_on, link_on, links_on, rows_of, with_lines_on}
use Rattle.test_select_features.proofs.LinksOn.{kept_on, links_more}
use Rattle.test_select_features.proofs.SourceFacts.{source_in_workspace}
use Rattle.test_select_features.proofs.switched_graph.links_on.Goals as goal

pub loop-number-preserved : goal.loop-number-preserved
loop-number-preserved c =
    let g = c.args.graph.now in
    let i = c.loop-number.number in
    let row : Link = c.row-item.result in
    let kept = c.link_rows-row-items.ensures.kept in
    let within : i < length g.links = search rules in
    let at : row ≡ get_or g.links i row = search rules in
    let is : slice_get g.links i ≡ Some row = slice_get_read g.links (length g.links) i row refl within at in
    let known : IsPackageId g.packages row.from = (subst (λ (l : Link). IsPackageId g.packages l.from × IsPackageId g.packages l.to) (sym at) (kept.ends_known i row within)).0 in
    let graph : graph_of c.from.result ≡ g = c.from.ensures.graph ∙ c.link_at.ensures.graph in
    let place : place_of c.from.result ≡ (link_at (numbered_links g) i).from =
    c.from.ensures.place
    ∙ ap (λ t. (link_at (numbered_links t) (number_of c.link_at.result)).from) c.link_at.ensures.graph
    ∙ ap (λ n. (link_at (numbered_links g) n).from) c.link_at.ensures.number in
    let here : c.in_workspace-in_workspace.result ≡ is_workspace_package (rows_of g) row.from =
    c.in_workspace-in_workspace.ensures.member
    ∙ ap (λ t. is_some (member_path_at t (place_of c.from.result))) graph
    ∙ ap (λ v. is_some (member_path_at g v)) place
    ∙ source_in_workspace g i row is known in
    c.in_ok-push_link_on.ensures ∙ ap (λ ls. ls ++ link_on c.in_workspace-in_workspace.result c.args.features.now c.args.table.now row) c.loop-number.invariant ∙ sym (links_more g c.args.features.now c.args.table.now i row c.in_workspace-in_workspace.result is here)

pub returns-clause-kept : goal.returns-clause-kept
returns-clause-kept c =
    let g = c.args.graph.now in
    let past : length g.links ≤ c.loop-number.number = search rules in
    let whole : c.loop-number.links.items ≡ links_on g c.args.features.now c.args.table.now =
    c.loop-number.invariant ∙ ap (λ ls. map (with_lines_on g c.args.features.now c.args.table.now) (filter (is_link_on g c.args.features.now c.args.table.now) ls)) (take_all c.loop-number.number g.links past) in
    subst (λ ls. AreKept g.packages ls g.workspace) (sym whole) (kept_on g c.args.features.now c.args.table.now c.link_rows-row-items.ensures.kept)
