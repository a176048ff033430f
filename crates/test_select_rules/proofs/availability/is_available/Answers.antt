use Rattle.std.proofs.Common.{◌≡◌, map, string_bytes, IsTrue, ◌↔◌, Contains, sym, subst}
use Rattle.test_select_rules.specs.OnLines.{HasRequired}
use Rattle.test_select_rules.proofs.OnLines.{required_iff}
use Rattle.test_select_rules.proofs.availability.is_available.Goals as goal

pub returns : goal.returns
returns c =
    let on = c.args.on.now in
    let id = c.args.package_id.now in
    let target = c.args.target.now in
    let same : target.required_features ≡ map string_bytes c.deref.result.now = cc in
    subst (λ b. IsTrue b ↔ HasRequired (λ f. Contains on f) id target) (sym c.contains_all_named.ensures) (required_iff on id target c.deref.result.now same)
