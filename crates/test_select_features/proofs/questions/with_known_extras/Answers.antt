use Rattle.std.proofs.Common.{◌∙◌, ap, refl, sym}
use Rattle.workspace_record.specs.Records.{Workspace}
use Rattle.test_select_features.specs.Switching.{unknown_extra}
use Rattle.test_select_features.proofs.questions.with_known_extras.Goals as goal

pub returns-in-Some : goal.returns-in-Some
returns-in-Some c =
    let of = λ (w : Workspace). unknown_extra w c.args.choice.now in
    (c.requires.tested, sym (c.unknown_extra.ensures ∙ ap of c.index.ensures.value) ∙ c.in-Some.is)

pub returns : goal.returns
returns c =
    let of = λ (w : Workspace). unknown_extra w c.args.choice.now in
    (refl, record { checked = c.requires.tested; known = sym (c.unknown_extra.ensures ∙ ap of c.index.ensures.value) ∙ c.in-None.is })
