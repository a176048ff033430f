use Rattle.std.proofs.Common.{sym, rules}
use Rattle.std.proofs.lemmas.Fn.{always_returns_same}
use Rattle.list_facts.specs.Ascending.{text_cmp}
use Rattle.list_facts.proofs.Ascending.{text_total}
use Rattle.guppy_package_table.specs.Members.{member_places, name_at}
use Rattle.guppy_package_table.proofs.OrderFacts.{nothing_found, something_found}
use Rattle.guppy_package_table.proofs.found_members.find_by_name.Goals as goal

pub returns-in-Ok-clause-value : goal.returns-in-Ok-clause-value
returns-in-Ok-clause-value c =
    let t = c.args.table.now in
    let searched = c.in-Ok.ensures.position (λ v. text_cmp (name_at t v) c.args.name.now) (always_returns_same _ _ _ (λ a r next called. (search rules, search rules))) in
    sym (something_found text_total (name_at t) (member_places t) c.args.by_name.now c.requires.0 c.args.name.now c.in-Ok.i 0 c.in-Ok.ensures.bound searched)

pub returns-in-Err-clause-value : goal.returns-in-Err-clause-value
returns-in-Err-clause-value c =
    let t = c.args.table.now in
    let searched = c.in-Err.ensures.position (λ v. text_cmp (name_at t v) c.args.name.now) (always_returns_same _ _ _ (λ a r next called. (search rules, search rules))) in
    sym (nothing_found text_total (name_at t) (member_places t) c.args.by_name.now c.requires.0 c.args.name.now _ searched)

pub returns-in-Ok-clause-within : goal.returns-in-Ok-clause-within
returns-in-Ok-clause-within c = c.requires.1 c.in-Ok.i 0 c.in-Ok.ensures.bound
