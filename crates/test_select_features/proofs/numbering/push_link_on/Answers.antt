use Rattle.std.proofs.Common.{rules, ◌≡◌, ◌∙◌, ◌++◌, true, false, ap, append-nil, sym}
use Rattle.std.specs.List.{list_any}
use Rattle.guppy_package_table.specs.Tables.{firm_flags, links_among}
use Rattle.test_select_features.specs.LinesOn.{line_is_on}
use Rattle.test_select_features.proofs.NumberingFacts.{ends_at, none_on, one_among, one_firm, source_here}
use Rattle.test_select_features.proofs.numbering.push_link_on.Goals as goal

pub returns-in_ok-push-2-clause-links : goal.returns-in_ok-push-2-clause-links
returns-in_ok-push-2-clause-links c =
    let g = c.args.graph.now in
    let on = c.args.features.now in
    let table = c.args.table.now in
    let row = c.args.row.now in
    let here = source_here g on table c.args.number row c.requires.row c.requires.kept c.link_at.result c.from.result c.in_workspace-in_workspace.result c.link_at.ensures.graph c.link_at.ensures.number c.from.ensures.graph c.from.ensures.place c.in_workspace-in_workspace.ensures.member in
    let ends = ends_at g on table c.args.number row c.requires.row c.end_of-from.result c.end_of-to.result c.end_of-from.ensures.end c.end_of-to.ensures.end in
    let is : list_any (line_is_on c.in_workspace-in_workspace.result on table row) row.lines ≡ true = search rules in
    c.in_ok-push.ensures.items ∙ ap (λ ls. c.args.on.now.links.items ++ ls) (sym (one_among g on table row c.in_workspace-in_workspace.result here _ is ends))

pub returns-in_ok-push-2-clause-firm : goal.returns-in_ok-push-2-clause-firm
returns-in_ok-push-2-clause-firm c =
    let g = c.args.graph.now in
    let on = c.args.features.now in
    let table = c.args.table.now in
    let row = c.args.row.now in
    let here = source_here g on table c.args.number row c.requires.row c.requires.kept c.link_at.result c.from.result c.in_workspace-in_workspace.result c.link_at.ensures.graph c.link_at.ensures.number c.from.ensures.graph c.from.ensures.place c.in_workspace-in_workspace.ensures.member in
    let is : list_any (line_is_on c.in_workspace-in_workspace.result on table row) row.lines ≡ true = search rules in
    c.in_ok-push-2.ensures.items ∙ ap (λ fs. c.args.on.now.firm.items ++ fs) (sym (one_firm g on table row c.in_workspace-in_workspace.result here c.has_firm_line_on.result is c.has_firm_line_on.ensures))

pub returns-else-has_line_on-clause-links : goal.returns-else-has_line_on-clause-links
returns-else-has_line_on-clause-links c =
    let g = c.args.graph.now in
    let on = c.args.features.now in
    let table = c.args.table.now in
    let row = c.args.row.now in
    let here = source_here g on table c.args.number row c.requires.row c.requires.kept c.link_at.result c.from.result c.in_workspace-in_workspace.result c.link_at.ensures.graph c.link_at.ensures.number c.from.ensures.graph c.from.ensures.place c.in_workspace-in_workspace.ensures.member in
    let is : list_any (line_is_on c.in_workspace-in_workspace.result on table row) row.lines ≡ false = search rules in
    sym (append-nil c.args.on.now.links.items) ∙ ap (λ ls. c.args.on.now.links.items ++ links_among g.packages ls) (sym (none_on g on table row c.in_workspace-in_workspace.result here is))

pub returns-else-has_line_on-clause-firm : goal.returns-else-has_line_on-clause-firm
returns-else-has_line_on-clause-firm c =
    let g = c.args.graph.now in
    let on = c.args.features.now in
    let table = c.args.table.now in
    let row = c.args.row.now in
    let here = source_here g on table c.args.number row c.requires.row c.requires.kept c.link_at.result c.from.result c.in_workspace-in_workspace.result c.link_at.ensures.graph c.link_at.ensures.number c.from.ensures.graph c.from.ensures.place c.in_workspace-in_workspace.ensures.member in
    let is : list_any (line_is_on c.in_workspace-in_workspace.result on table row) row.lines ≡ false = search rules in
    sym (append-nil c.args.on.now.firm.items) ∙ ap (λ ls. c.args.on.now.firm.items ++ firm_flags ls) (sym (none_on g on table row c.in_workspace-in_workspace.result here is))
