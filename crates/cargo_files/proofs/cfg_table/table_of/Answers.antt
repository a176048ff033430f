use Rattle.std.proofs.Common.{◌≡◌, ◌∙◌, ap}
use Rattle.std.proofs.lemmas.Result.{err_from_is_err_and}
use Rattle.cargo_files.proofs.cfg_table.table_of.Goals as goal

pub returns-in_err-answers-clause-refused : goal.returns-in_err-answers-clause-refused
returns-in_err-answers-clause-refused c =
    let links : c.deref.result.now ≡ c.args.workspace.now.links = c.deref.ensures.value ∙ ap (λ w. w.links) c.workspace.view_is in
    let p = err_from_is_err_and c.from_residual-in_err-answers.result c.from_residual-in_err-answers.ensures.1 in
    rw (p.1, p.2) (rw (c.deref-2.ensures.value, c.in_ok-specs.ensures, links) at c.in_err-answers.ensures.refused)

pub returns-clause-answers : goal.returns-clause-answers
returns-clause-answers c =
    let links : c.deref.result.now ≡ c.args.workspace.now.links = c.deref.ensures.value ∙ ap (λ w. w.links) c.workspace.view_is in
    rw (c.deref-2.ensures.value, c.in_ok-specs.ensures, links) at c.in_ok-answers.ensures.answers
