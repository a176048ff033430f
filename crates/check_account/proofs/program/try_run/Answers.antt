use Rattle.std.proofs.Common.{refl}
use Rattle.test_select_files.proofs.RunFacts.{fails_as, no_request_told, not_taken, only_memory}
use Rattle.check_account.specs.Checker.{checker}
use Rattle.check_account.proofs.RunFacts.{checker_is_free, ends_as, memory_ends, memory_is_one, memory_refuses, rows_are}
use Rattle.check_account.proofs.program.try_run.Goals as goal

pub returns-in_err-command-clause-ends : goal.returns-in_err-command-clause-ends
returns-in_err-command-clause-ends g c = λ none. memory_ends _ _ _ _ (fails_as _ _ c.from_residual.ensures.1) refl

pub returns-in-Ok-clause-ends : goal.returns-in-Ok-clause-ends
returns-in-Ok-clause-ends g c = λ none. ends_as _ _ _ _ _ (rows_are _ _ _ c.in_ok-command.ensures.app c.in-Ok.ensures.matches) c.print_verdict.ensures.prints

pub returns-in-Err-clause-ends : goal.returns-in-Err-clause-ends
returns-in-Err-clause-ends g c = λ none.
    let ran_out = c.show.ensures.memory (only_memory checker _ _ c.in-Err.shown checker_is_free c.in_ok-command.ensures.app c.in-Err.ensures.kinds none) in
    memory_ends _ _ _ _ ran_out.0 ran_out.1

pub returns-in_err-command-clause-mistaken : goal.returns-in_err-command-clause-mistaken
returns-in_err-command-clause-mistaken g c = λ mistakes. (memory_refuses _ c.from_residual.ensures.1, refl, refl)

pub returns-in-Ok-clause-mistaken : goal.returns-in-Ok-clause-mistaken
returns-in-Ok-clause-mistaken g c = λ mistakes. absurd (not_taken checker _ _ checker_is_free c.in_ok-command.ensures.app c.in-Ok.ensures.kinds mistakes)

pub returns-in-Err-clause-mistaken : goal.returns-in-Err-clause-mistaken
returns-in-Err-clause-mistaken g c = λ mistakes.
    let told = no_request_told checker _ _ c.in-Err.shown checker_is_free c.in_ok-command.ensures.app c.in-Err.ensures.kinds mistakes in
    let refused = c.show.ensures.refused told.0 told.1 in
    (refused.0, refused.1, refl)

pub returns-in-Err-clause-accepted : goal.returns-in-Err-clause-accepted
returns-in-Err-clause-accepted g c = λ none.
    memory_is_one _ (c.show.ensures.memory (only_memory checker _ _ c.in-Err.shown checker_is_free c.in_ok-command.ensures.app c.in-Err.ensures.kinds none)).0
