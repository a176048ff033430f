use Rattle.std.proofs.Common.{rules, ◌≡◌, ◌∙◌, ◌<◌, ◌≤◌, ◌++◌, Some, ap, refl, sym, subst, get_or, length, slice_get}
use Rattle.std.proofs.lemmas.Option.{slice_get_read}
use Rattle.workspace_record.specs.Records.{Link}
use Rattle.guppy_package_table.specs.Tables.{firm_flags, links_among}
use Rattle.test_select_features.specs.LinesOn.{link_on_of}
use Rattle.test_select_features.proofs.NumberingFacts.{all_before, among_more, firm_more}
use Rattle.test_select_features.proofs.numbering.numbered_links_on.Goals as goal

pub loop-number-preserved : goal.loop-number-preserved
loop-number-preserved c =
    let g = c.args.graph.now in
    let on = c.args.features.now in
    let table = c.args.table.now in
    let rows = c.args.rows.now in
    let i = c.loop-number.number in
    let row : Link = c.index-rows-number.result in
    let within : i < length rows = search rules in
    let at : row ≡ get_or rows i row = search rules in
    let is : slice_get g.links i ≡ Some row = subst (λ ls. slice_get ls i ≡ Some row) c.requires.rows (slice_get_read rows (length rows) i row refl within at) in
    record {
      links = c.in_ok-push_link_on.ensures.links ∙ ap (λ ls. ls ++ links_among g.packages (link_on_of g on table row)) c.loop-number.invariant.links ∙ sym (among_more g on table i row is);
      firm = c.in_ok-push_link_on.ensures.firm ∙ ap (λ fs. fs ++ firm_flags (link_on_of g on table row)) c.loop-number.invariant.firm ∙ sym (firm_more g on table i row is);
    }

pub push_link_on-requires-clause-row : goal.push_link_on-requires-clause-row
push_link_on-requires-clause-row c =
    let rows = c.args.rows.now in
    let i = c.loop-number.number in
    let row : Link = c.index-rows-number.result in
    let within : i < length rows = search rules in
    let at : row ≡ get_or rows i row = search rules in
    subst (λ ls. slice_get ls i ≡ Some row) c.requires.rows (slice_get_read rows (length rows) i row refl within at)

pub returns-clause-links : goal.returns-clause-links
returns-clause-links c =
    let g = c.args.graph.now in
    let past : length c.args.rows.now ≤ c.loop-number.number = search rules in
    c.loop-number.invariant.links ∙ ap (links_among g.packages) (all_before g c.args.features.now c.args.table.now c.loop-number.number (subst (λ ls. length ls ≤ c.loop-number.number) c.requires.rows past))

pub returns-clause-firm : goal.returns-clause-firm
returns-clause-firm c =
    let g = c.args.graph.now in
    let past : length c.args.rows.now ≤ c.loop-number.number = search rules in
    c.loop-number.invariant.firm ∙ ap firm_flags (all_before g c.args.features.now c.args.table.now c.loop-number.number (subst (λ ls. length ls ≤ c.loop-number.number) c.requires.rows past))
