use Rattle.std.proofs.Common.{take_all, subst, sym, take}
use Rattle.std.proofs.lemmas.List.{take_more}
use Rattle.guppy_package_rules.proofs.PlaceFacts.{HoldsSeen, seen_more}
use Rattle.guppy_package_rules.proofs.FoundFacts.{lent_texts, holds_texts}
use Rattle.guppy_package_rules.proofs.text_sets.text_set.Goals as goal

pub loop-text-preserved : goal.loop-text-preserved
loop-text-preserved c =
    let texts = c.args.texts.now in
    let i = c.loop-text.text-index in
    subst (HoldsSeen lent_texts c.insert.new.self.keys) (sym (take_more texts i _ c.loop-text-test.true)) (seen_more lent_texts c.loop-text.set.keys c.insert.new.self.keys (take i texts) _ c.loop-text.invariant c.in_ok-insert.ensures.updates.0)

pub returns : goal.returns
returns c =
    holds_texts c.loop-text.set c.args.texts.now (subst (HoldsSeen lent_texts c.loop-text.set.keys) (take_all c.loop-text.text-index c.args.texts.now c.loop-text-test.false) c.loop-text.invariant)
