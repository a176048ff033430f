use Rattle.std.proofs.Common.{◌++◌, ◌∷◌, [], take_all, sym, ◌∙◌}
use Rattle.std.proofs.lemmas.List.{take_more}
use Rattle.feature_account_rules.proofs.feature_ref.copies_of.Goals as goal

pub loop-feature-preserved : goal.loop-feature-preserved
loop-feature-preserved c =
    let so_far = c.loop-feature.invariant in
    let is = c.in_ok-copy.ensures.copied ∙ c.feature-item.is in
    c.in_ok-push.ensures.items ∙ (λ j. so_far j ++ is j ∷ []) ∙ sym (take_more c.args.features.now c.loop-feature.feature-index c.feature-item.result c.loop-feature-test.true)

pub returns : goal.returns
returns c = c.loop-feature.invariant ∙ take_all c.loop-feature.feature-index c.args.features.now c.loop-feature-test.false
