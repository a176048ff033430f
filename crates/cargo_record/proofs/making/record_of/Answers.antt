use Rattle.std.proofs.Common.{◌≡◌, ◌∙◌, List, [], None, ap, map, refl, subst, sym, true}
use Rattle.std.proofs.lemmas.Result.{err_from_is_err_and}
use Rattle.std.specs.List.{list_all}
use Rattle.workspace_record.specs.Records.{Link, Workspace}
use Rattle.cargo_metadata.specs.Metadata.{Metadata}
use Rattle.cargo_record.specs.Kept.{kept_row, owns_targets}
use Rattle.cargo_record.specs.Lines.{line_rows}
use Rattle.cargo_record.specs.Refused.{AreRows}
use Rattle.cargo_record.proofs.LineFacts.{same_lines}
use Rattle.cargo_record.proofs.RefusalFacts.{record_refuses}
use Rattle.cargo_record.proofs.making.record_of.Goals as goal

pub returns-clause-lines : goal.returns-clause-lines
returns-clause-lines c =
    let rows : List Link → Workspace = λ links. record { packages = c.in_ok-packages.packages.items; links = links; workspace = c.in_ok-workspace.workspace; groups = c.new-2.result.items; default_filter = None } in
    let lines = c.in_ok-links.ensures.lines in
    let found = line_rows c.in_ok-links.links.items in
    (lines.0, lines.1, same_lines (rows c.new.result.items) (rows []) c.args.metadata.now.packages lines.0 found found (ap rows (sym c.new.ensures.items)) refl lines.2)

pub returns-clause-apart : goal.returns-clause-apart
returns-clause-apart c = c.in_ok-links.ensures.apart

pub returns-clause-own : goal.returns-clause-own
returns-clause-own c =
    let rows : List Link → Workspace = λ links. record { packages = c.in_ok-packages.packages.items; links = links; workspace = c.in_ok-workspace.workspace; groups = c.new-2.result.items; default_filter = None } in
    subst (λ w. list_all (owns_targets w) c.args.metadata.now.packages ≡ true) (ap rows c.new.ensures.items) c.in_ok-links.ensures.own

pub returns-in_err-links-clause-refused : goal.returns-in_err-links-clause-refused
returns-in_err-links-clause-refused c =
    let p = err_from_is_err_and c.from_residual-in_err-links.result c.from_residual-in_err-links.ensures.1 in
    let rows : Workspace = record { packages = c.in_ok-packages.packages.items; links = c.new.result.items; workspace = c.in_ok-workspace.workspace; groups = c.new-2.result.items; default_filter = None } in
    let are : AreRows c.args.metadata.now c.args.wanted rows = record { packages = c.in_ok-packages.ensures ∙ ap (map kept_row) (c.deref.ensures.value ∙ ap (λ (m : Metadata). m.packages) c.metadata.view_is); workspace = c.in_ok-workspace.ensures.is; links = c.new.ensures.items } in
    rw (p.1, p.2) (record_refuses c.args.metadata.now c.args.wanted rows _ are c.in_err-links.ensures.refused)
