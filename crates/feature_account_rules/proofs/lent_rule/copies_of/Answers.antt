use Rattle.std.proofs.Common.{◌++◌, ◌∷◌, [], take_all, sym, ◌∙◌}
use Rattle.std.proofs.lemmas.List.{take_more}
use Rattle.feature_account_rules.proofs.lent_rule.copies_of.Goals as goal

pub loop-rule-preserved : goal.loop-rule-preserved
loop-rule-preserved c =
    let so_far = c.loop-rule.invariant in
    let is = c.in_ok-copy.ensures.copied ∙ c.rule-item.is in
    c.in_ok-push.ensures.items ∙ (λ j. so_far j ++ is j ∷ []) ∙ sym (take_more c.args.rules.now c.loop-rule.rule-index c.rule-item.result c.loop-rule-test.true)

pub returns : goal.returns
returns c = c.loop-rule.invariant ∙ take_all c.loop-rule.rule-index c.args.rules.now c.loop-rule-test.false
