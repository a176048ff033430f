use Rattle.std.proofs.Common.{◌≡◌, false}
use Rattle.std.specs.Fmt.{HasWritten, IsPlainFormatter}
use Rattle.nextest_filter_matchers.specs.Printing.{printed_pattern, escaped_after}
use Rattle.nextest_filter_matchers.proofs.escaped.write_pattern.Given as goal

abbrev pub invariant-loop-c : goal.invariant-loop-c
invariant-loop-c g l = record {
  written : IsPlainFormatter l.initial.f → HasWritten g.W.Write.write_str_gives l.initial.f (printed_pattern false l.yielded) l.f;
  escaped : l.is_escaped ≡ escaped_after false l.yielded;
}
