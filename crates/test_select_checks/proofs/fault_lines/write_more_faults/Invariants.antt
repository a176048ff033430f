use Rattle.std.proofs.Common.{take}
use Rattle.std.specs.Fmt.{HasWritten, IsPlainFormatter}
use Rattle.test_select_checks.specs.FaultLines.{more_fault_lines}
use Rattle.test_select_checks.proofs.fault_lines.write_more_faults.Given as goal

abbrev pub invariant-loop-error : goal.invariant-loop-error
invariant-loop-error g l =
    IsPlainFormatter l.initial.f → HasWritten g.W.Write.write_str_gives l.initial.f (more_fault_lines l.front l.place (take l.error-index l.errors)) l.f
