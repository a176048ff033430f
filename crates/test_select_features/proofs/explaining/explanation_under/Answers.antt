use Rattle.std.proofs.Common.{◌∙◌}
use Rattle.test_select_features.proofs.ExplainingFacts.{explained_over}
use Rattle.test_select_features.proofs.explaining.explanation_under.Goals as goal

pub returns : goal.returns
returns c =
    explained_over c.args.index.now c.args.choice.now c.args.table.now c.args.feature.now c.deref.result.now c.deref-2.result.now c.in_ok-account.account.rules.items c.deref-3.result.now c.explanation_of.result (c.deref.ensures.value ∙ c.in_ok-rules.ensures.listed) (c.deref-2.ensures.value ∙ c.in_ok-rules.ensures.listed) c.deref-3.ensures.value c.in_ok-account.ensures.lowest c.in_ok-account.ensures.on c.explanation_of.ensures.found c.explanation_of.ensures.explains c.explanation_of.ensures.in_order
