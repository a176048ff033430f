use Rattle.std.proofs.Common.{◌≡◌, ◌∙◌, List, String, Vec, ap, map, rules, string_bytes, true}
use Rattle.std.specs.Global.{Global}
use Rattle.record_files.specs.Listings.{listing}
use Rattle.record_writing.specs.Maps.{listings_line}
use Rattle.test_select_tests.specs.Grouping.{group_of}
use Rattle.test_select.proofs.SelectionFacts.{form_begun, form_unmade, form_written}
use Rattle.test_select.proofs.selections.write_listings.Goals as goal

pub returns-in_err-groups-clause-prints : goal.returns-in_err-groups-clause-prints
returns-in_err-groups-clause-prints g c = form_unmade true c.args.selection.chosen _ _ c.from_residual.ensures.1

pub returns-in_err-line-clause-prints : goal.returns-in_err-line-clause-prints
returns-in_err-line-clause-prints g c = form_unmade true c.args.selection.chosen _ _ c.from_residual-in_err-line.ensures.1

pub returns-in_err-write_bytes-clause-prints : goal.returns-in_err-write_bytes-clause-prints
returns-in_err-write_bytes-clause-prints g c =
    let lent : c.as_bytes.result.now ≡ string_bytes c.in_ok-line.line = search rules in
    let those : c.deref.result.now ≡ c.in_ok-groups.groups.items = search rules in
    form_begun true c.args.selection.chosen c.as_bytes.result.now
    (map group_of c.in_ok-groups.groups.items, c.in_ok-groups.ensures.groups, lent ∙ c.in_ok-line.ensures.line ∙ ap (λ (groups : List (String Global × Vec (String Global) Global)). listings_line (map listing groups)) those)
    _ _ _ c.from_residual-in_err-write_bytes.ensures.1 c.in_err-write_bytes.ensures

pub returns-clause-prints : goal.returns-clause-prints
returns-clause-prints g c =
    let lent : c.as_bytes.result.now ≡ string_bytes c.in_ok-line.line = search rules in
    let those : c.deref.result.now ≡ c.in_ok-groups.groups.items = search rules in
    form_written true c.args.selection.chosen c.as_bytes.result.now
    (map group_of c.in_ok-groups.groups.items, c.in_ok-groups.ensures.groups, lent ∙ c.in_ok-line.ensures.line ∙ ap (λ (groups : List (String Global × Vec (String Global) Global)). listings_line (map listing groups)) those)
    _ _ c.in_ok-write_bytes.ensures
