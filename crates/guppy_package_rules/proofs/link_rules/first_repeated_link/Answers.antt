use Rattle.std.proofs.Common.{◌≡◌, IfOk, map, subst, ap, take_all, ◌∙◌}
use Rattle.guppy_package_rules.specs.Found.{lent_key}
use Rattle.guppy_package_rules.specs.Places.{first_repeat}
use Rattle.guppy_package_rules.specs.Rules.{link_key, same_key}
use Rattle.guppy_package_rules.proofs.RepeatFacts.{repeat_of_keys}
use Rattle.guppy_package_rules.proofs.link_rules.first_repeated_link.Goals as goal

pub returns : goal.returns
returns c =
    subst (λ first. IfOk c.first_repeat.result (λ place. place ≡ first)) (repeat_of_keys c.deref.result.now ∙ ap (first_repeat same_key) (ap (map lent_key) c.deref.ensures.value ∙ c.loop-link.invariant ∙ ap (map link_key) (take_all c.loop-link.link-index c.args.links.now c.loop-link-test.false))) c.first_repeat.ensures
