use Rattle.std.proofs.Common.{refl}
use Rattle.test_select_files.proofs.RunFacts.{fails_as, no_request_told, not_taken, only_memory}
use Rattle.cargo_workspace.specs.Maker.{maker}
use Rattle.cargo_workspace.proofs.RunFacts.{below_are, ends_as, maker_is_free, memory_ends, memory_refuses}
use Rattle.cargo_workspace.proofs.program.try_run.Goals as goal

pub returns-in_err-command-clause-ends : goal.returns-in_err-command-clause-ends
returns-in_err-command-clause-ends g c = λ none. memory_ends _ _ _ _ (fails_as _ _ c.from_residual.ensures.1) refl

pub returns-in-Ok-clause-ends : goal.returns-in-Ok-clause-ends
returns-in-Ok-clause-ends g c = λ none. ends_as _ _ _ _ _ (below_are _ _ _ c.in_ok-command.ensures.app c.in-Ok.ensures.matches) c.print_made.ensures.ends

pub returns-in-Err-clause-ends : goal.returns-in-Err-clause-ends
returns-in-Err-clause-ends g c = λ none.
    let ran_out = c.show.ensures.memory (only_memory maker _ _ c.in-Err.shown maker_is_free c.in_ok-command.ensures.app c.in-Err.ensures.kinds none) in
    memory_ends _ _ _ _ ran_out.0 ran_out.1

pub returns-in_err-command-clause-mistakes : goal.returns-in_err-command-clause-mistakes
returns-in_err-command-clause-mistakes g c = λ mistakes. (memory_refuses _ c.from_residual.ensures.1, refl, refl)

pub returns-in-Ok-clause-mistakes : goal.returns-in-Ok-clause-mistakes
returns-in-Ok-clause-mistakes g c = λ mistakes. absurd (not_taken maker _ _ maker_is_free c.in_ok-command.ensures.app c.in-Ok.ensures.kinds mistakes)

pub returns-in-Err-clause-mistakes : goal.returns-in-Err-clause-mistakes
returns-in-Err-clause-mistakes g c = λ mistakes.
    let told = no_request_told maker _ _ c.in-Err.shown maker_is_free c.in_ok-command.ensures.app c.in-Err.ensures.kinds mistakes in
    let refused = c.show.ensures.refused told.0 told.1 in
    (refused.0, refused.1, refl)
