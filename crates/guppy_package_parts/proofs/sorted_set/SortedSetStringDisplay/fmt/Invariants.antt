use Rattle.std.proofs.Common.{map, take, string_bytes}
use Rattle.std.specs.Fmt.{HasWritten, IsPlainFormatter}
use Rattle.guppy_package_parts.specs.SortedSets.{joined_rest}
use Rattle.guppy_package_parts.proofs.sorted_set.SortedSetStringDisplay.fmt.Given as goal

abbrev pub invariant-loop-other : goal.invariant-loop-other
invariant-loop-other g l =
    IsPlainFormatter l.initial.f → HasWritten g.W.Write.write_str_gives l.initial.f (joined_rest (map string_bytes (take l.other-index l.others))) l.f
