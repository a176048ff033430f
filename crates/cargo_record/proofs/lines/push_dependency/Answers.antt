use Rattle.std.proofs.Common.{◌≡◌, true}
use Rattle.cargo_record.specs.Lines.{counts}
use Rattle.cargo_record.specs.Fitting.{IsResolution}
use Rattle.std.proofs.lemmas.Result.{err_from_is_err_and}
use Rattle.std.proofs.Common.{◌∙◌, sym, ap}
use Rattle.cargo_record.specs.Lines.{line_rows}
use Rattle.cargo_record.proofs.LineFacts.{takes_one}
use Rattle.cargo_record.proofs.lines.push_dependency.Goals as goal

pub returns : goal.returns
returns c = record {
  taken = takes_one c.args.index.now c.args.«package».now c.args.node.now c.args.dependency.now c.in_ok-found.found (line_rows c.args.links.now.items) (line_rows c.push_resolved.new.links.items) (rw c.id_of-id.ensures at (sym c.counts.ensures ∙ c.if-not-counts.false)) (rw (c.deref.ensures.value, ap (λ n. n.dependencies) c.node.view_is) at c.in_ok-found.ensures) (rw c.id_of-id.ensures at c.in_ok-push_resolved.ensures.pushed);
  declared = rw c.id_of-id.ensures at c.in_ok-push_resolved.ensures.declared;
  apart = rw c.id_of-id.ensures at c.in_ok-push_resolved.ensures.apart;
  refused = tt;
}

pub returns-in_err-push_resolved-clause-refused : goal.returns-in_err-push_resolved-clause-refused
returns-in_err-push_resolved-clause-refused c =
    let p = err_from_is_err_and c.from_residual-in_err-push_resolved.result c.from_residual-in_err-push_resolved.ensures.1 in
    let on : counts c.args.index.now c.args.«package».now.row.id c.args.dependency.now ≡ true = rw c.id_of-id.ensures at (sym c.counts.ensures ∙ c.if-not-counts.false) in
    let found : IsResolution c.args.index.now c.args.dependency.now c.args.node.now.dependencies c.in_ok-found.found = rw (c.deref.ensures.value, ap (λ n. n.dependencies) c.node.view_is) at c.in_ok-found.ensures in
    rw (p.1, p.2) (on, rw c.id_of-id.ensures at (c.in_err-push_resolved.ensures.refused c.args.node.now.dependencies found))
