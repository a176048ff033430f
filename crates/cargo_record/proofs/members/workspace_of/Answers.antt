use Rattle.std.proofs.Common.{◌≡◌, Contains, map, rules, string_bytes, subst}
use Rattle.std.proofs.lemmas.Result.{err_from_is_err_and}
use Rattle.cargo_record.proofs.members.workspace_of.Goals as goal

pub returns-in_err-members-clause-refused : goal.returns-in_err-members-clause-refused
returns-in_err-members-clause-refused c =
    let p = err_from_is_err_and c.from_residual-in_err-members.result c.from_residual-in_err-members.ensures.1 in
    let ids : map string_bytes c.deref.result.now ≡ c.args.metadata.now.workspace.members = search rules in
    rw (p.1, p.2) (c.in_err-members.ensures.refused (λ id among. subst (λ ts. Contains ts id) ids among))
