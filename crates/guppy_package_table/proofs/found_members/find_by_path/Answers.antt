use Rattle.std.proofs.Common.{sym, rules}
use Rattle.std.proofs.lemmas.Fn.{always_returns_same}
use Rattle.guppy_package_rules.specs.Paths.{path_cmp, path_cmp_total}
use Rattle.guppy_package_table.specs.Members.{member_places, path_at}
use Rattle.guppy_package_table.proofs.OrderFacts.{nothing_found, something_found}
use Rattle.guppy_package_table.proofs.found_members.find_by_path.Goals as goal

pub returns-in-Ok-clause-value : goal.returns-in-Ok-clause-value
returns-in-Ok-clause-value c =
    let t = c.args.table.now in
    let searched = c.in-Ok.ensures.position (λ v. path_cmp (path_at t v) c.args.path.now) (always_returns_same _ _ _ (λ a r next called. (search rules, search rules))) in
    sym (something_found path_cmp_total (path_at t) (member_places t) c.args.by_path.now c.requires.0 c.args.path.now c.in-Ok.i 0 c.in-Ok.ensures.bound searched)

pub returns-in-Err-clause-value : goal.returns-in-Err-clause-value
returns-in-Err-clause-value c =
    let t = c.args.table.now in
    let searched = c.in-Err.ensures.position (λ v. path_cmp (path_at t v) c.args.path.now) (always_returns_same _ _ _ (λ a r next called. (search rules, search rules))) in
    sym (nothing_found path_cmp_total (path_at t) (member_places t) c.args.by_path.now c.requires.0 c.args.path.now _ searched)

pub returns-in-Ok-clause-within : goal.returns-in-Ok-clause-within
returns-in-Ok-clause-within c = c.requires.1 c.in-Ok.i 0 c.in-Ok.ensures.bound
