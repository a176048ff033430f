use Rattle.std.proofs.Common.{Contains, map, string_bytes, subst, sym}
use Rattle.list_facts.proofs.Membership.{Contains-map}
use Rattle.std.proofs.lemmas.Result.{err_from_is_err_and}
use Rattle.cargo_record.proofs.members.members_of.Goals as goal

pub returns-in_err-package-clause-refused : goal.returns-in_err-package-clause-refused
returns-in_err-package-clause-refused c =
    let p = err_from_is_err_and c.from_residual.result c.from_residual.ensures.1 in
    let among = subst (λ t. Contains (map string_bytes c.args.ids.now) t) (sym c.as_str.ensures.value) (Contains-map string_bytes c.args.ids.now c.id-item.result (c.loop-id.id-index, c.loop-id-test.true, sym c.id-item.is)) in
    rw (p.1, p.2) (λ all. c.in_err-package.ensures.refused c.args.wanted (all c.as_str.result.now among))
