use Rattle.std.proofs.Common.{refl}
use Rattle.clap.specs.Words.{subcommand_rows_of}
use Rattle.test_select_files.proofs.ReadingFacts.{asks_such}
use Rattle.test_select_files.proofs.RunFacts.{fails_as}
use Rattle.test_select.proofs.RunFacts.{as_ends, means_any, means_fault, means_matches, memory_ends, memory_refuses, refused_ends, run_is_bad, shown_memory, shown_refuses, taken_refuses}
use Rattle.test_select.proofs.program.try_run.Goals as goal

pub returns-in_err-command-clause-ends : goal.returns-in_err-command-clause-ends
returns-in_err-command-clause-ends g c = means_any _ _ (memory_ends _ _ _ (fails_as _ _ c.from_residual.ensures.1) refl)

pub returns-in_err-refuse_bad_partition-in-Ok-clause-ends : goal.returns-in_err-refuse_bad_partition-in-Ok-clause-ends
returns-in_err-refuse_bad_partition-in-Ok-clause-ends g c =
    means_matches _ _ _ c.in-Ok.matches c.in_ok-command.ensures.app c.in-Ok.ensures.matches
    (refused_ends (subcommand_rows_of c.in-Ok.matches) _ _ _ c.from_residual-in_err-refuse_bad_partition-in-Ok.ensures.1 c.in_err-refuse_bad_partition-in-Ok.ensures.refuses)

pub returns-in_ok-refuse_bad_partition-in-Ok-clause-ends : goal.returns-in_ok-refuse_bad_partition-in-Ok-clause-ends
returns-in_ok-refuse_bad_partition-in-Ok-clause-ends g c =
    means_matches _ _ _ c.in-Ok.matches c.in_ok-command.ensures.app c.in-Ok.ensures.matches
    (asks_such c.carry_out.ensures.ends (λ a h. as_ends (subcommand_rows_of c.in-Ok.matches) c.carry_out.result (g.O.Write.contents c.args.out.now) (g.O.Write.contents c.carry_out.new.out) a c.in_ok-refuse_bad_partition-in-Ok.ensures.refuses c.carry_out.ensures.status h))

pub returns-in_err-show-in-Err-clause-ends : goal.returns-in_err-show-in-Err-clause-ends
returns-in_err-show-in-Err-clause-ends g c =
    means_fault _ _ _ c.in-Err.shown c.in_ok-command.ensures.app c.in-Err.ensures.kinds (λ ran_out below.
    let ended = c.in_err-show-in-Err.ensures.memory ran_out in
    memory_ends _ _ _ (shown_memory c.in_err-show-in-Err.field-0.0 _ _ c.from_residual-in_err-show-in-Err.ensures.1 refl ended.0) ended.1 below)

pub returns-in_ok-show-in-Err-clause-ends : goal.returns-in_ok-show-in-Err-clause-ends
returns-in_ok-show-in-Err-clause-ends g c =
    means_fault _ _ _ c.in-Err.shown c.in_ok-command.ensures.app c.in-Err.ensures.kinds (λ ran_out below.
    let ended = c.in_ok-show-in-Err.ensures.memory ran_out in
    absurd (cc ended.0))

pub returns-in_err-command-clause-mistakes : goal.returns-in_err-command-clause-mistakes
returns-in_err-command-clause-mistakes g c = memory_refuses _ _ c.from_residual.ensures.1

pub returns-in_err-refuse_bad_partition-in-Ok-clause-mistakes : goal.returns-in_err-refuse_bad_partition-in-Ok-clause-mistakes
returns-in_err-refuse_bad_partition-in-Ok-clause-mistakes g c = taken_refuses _ _ c.in_ok-command.ensures.app _ c.in-Ok.ensures.kinds

pub returns-in_ok-refuse_bad_partition-in-Ok-clause-mistakes : goal.returns-in_ok-refuse_bad_partition-in-Ok-clause-mistakes
returns-in_ok-refuse_bad_partition-in-Ok-clause-mistakes g c = taken_refuses _ _ c.in_ok-command.ensures.app _ c.in-Ok.ensures.kinds

pub returns-in_err-show-in-Err-clause-mistakes : goal.returns-in_err-show-in-Err-clause-mistakes
returns-in_err-show-in-Err-clause-mistakes g c =
    shown_refuses _ _ c.in_ok-command.ensures.app c.in-Err.shown _ c.in-Err.ensures.kinds (λ help version.
    let refused = c.in_err-show-in-Err.ensures.refused help version in
    (run_is_bad c.in_err-show-in-Err.field-0.0 _ c.from_residual-in_err-show-in-Err.ensures.1 refused.0, refused.1))

pub returns-in_ok-show-in-Err-clause-mistakes : goal.returns-in_ok-show-in-Err-clause-mistakes
returns-in_ok-show-in-Err-clause-mistakes g c =
    shown_refuses _ _ c.in_ok-command.ensures.app c.in-Err.shown _ c.in-Err.ensures.kinds (λ help version.
    absurd (c.in_ok-show-in-Err.ensures.refused help version).0)
