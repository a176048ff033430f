use Rattle.std.proofs.Common.{◌∙◌, ap}
use Rattle.guppy_package_parts.specs.Ternaries.{ternary_of}
use Rattle.guppy_package_parts.proofs.TernaryFacts.{greatest_step}
use Rattle.guppy_package_parts.proofs.platform.greatest_answer.Goals as goal

pub loop-platform-preserved : goal.loop-platform-preserved
loop-platform-preserved g c =
    c.bitor-greatest.ensures ∙ greatest_step (λ p. ternary_of (g.P.Platform.answers p c.args.spec.now)) c.args.platforms.now c.loop-platform.platform-index c.platform-item.result _ _ c.loop-platform-test.true c.platform-item.is c.loop-platform.invariant (c.of.ensures ∙ ap ternary_of c.answer.ensures)
