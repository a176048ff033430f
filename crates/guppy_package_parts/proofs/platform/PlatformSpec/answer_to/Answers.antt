use Rattle.std.proofs.Common.{◌∙◌, Some, ap, map, sym}
use Rattle.list_facts.proofs.Lists.{map-map}
use Rattle.guppy_package_parts.specs.PlatformViews.{spec_view}
use Rattle.guppy_package_parts.specs.Statuses.{spec_answer}
use Rattle.guppy_package_parts.specs.Ternaries.{greatest, ternary_of}
use Rattle.guppy_package_parts.proofs.platform.PlatformSpec.answer_to.Goals as goal

pub returns-in-Platforms : goal.returns-in-Platforms
returns-in-Platforms g c =
    let spec = c.args.spec.now in
    c.greatest_answer.ensures ∙ ap (λ ps. greatest (map (λ p. ternary_of (g.P.Platform.answers p spec)) ps)) c.deref.ensures.value ∙ ap greatest (sym (map-map (λ answer. ternary_of (answer spec)) g.P.Platform.answers c.in-Platforms.platforms.items)) ∙ ap (λ s. spec_answer (spec_view g.P.Platform.answers s) (Some spec)) (sym c.in-Platforms.is)
