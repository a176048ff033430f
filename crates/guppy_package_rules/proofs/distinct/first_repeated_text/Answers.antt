use Rattle.std.proofs.Common.{◌≡◌, IfOk, subst}
use Rattle.guppy_package_rules.proofs.RepeatFacts.{repeat_of_lent}
use Rattle.guppy_package_rules.proofs.distinct.first_repeated_text.Goals as goal

pub returns : goal.returns
returns c = subst (λ first. IfOk c.first_repeat.result (λ place. place ≡ first)) (repeat_of_lent c.args.texts.now) c.first_repeat.ensures
