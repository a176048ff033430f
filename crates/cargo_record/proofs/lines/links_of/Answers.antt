use Rattle.cargo_record.proofs.RefusalFacts.{links_refuse}
use Rattle.std.proofs.lemmas.Result.{err_from_is_err_and}
use Rattle.std.proofs.Common.{◌≡◌, ◌∙◌, sym, ap, Some, option_map}
use Rattle.cargo_record.proofs.lines.links_of.Goals as goal

pub returns-clause-lines : goal.returns-clause-lines
returns-clause-lines c =
    let is = c.metadata.view_is in
    let nodes : c.args.metadata.now.nodes ≡ Some c.in-Some.nodes.items = sym (ap (λ m. m.nodes) is) ∙ ap (option_map (λ v. v.items)) c.in-Some.is in
    (c.in-Some.nodes.items, nodes, rw (c.in_ok-index.ensures.made, c.deref.ensures.value, c.deref-2.ensures.value, ap (λ m. m.packages) is) at c.in_ok-links.ensures.lines)

pub returns-clause-apart : goal.returns-clause-apart
returns-clause-apart c = rw (c.deref.ensures.value, ap (λ m. m.packages) c.metadata.view_is) at c.in_ok-links.ensures.apart

pub returns-in_err-links-clause-refused : goal.returns-in_err-links-clause-refused
returns-in_err-links-clause-refused c =
    let p = err_from_is_err_and c.from_residual-in_err-links.result c.from_residual-in_err-links.ensures.1 in
    let is = c.metadata.view_is in
    let nodes : c.args.metadata.now.nodes ≡ Some c.in-Some.nodes.items = sym (ap (λ m. m.nodes) is) ∙ ap (option_map (λ v. v.items)) c.in-Some.is in
    rw (p.1, p.2) (links_refuse c.args.rows.now c.args.metadata.now c.in-Some.nodes.items _ nodes (rw (c.in_ok-index.ensures.made, c.deref.ensures.value, c.deref-2.ensures.value, ap (λ m. m.packages) is) at c.in_err-links.ensures.refused))
