use Rattle.std.proofs.Common.{◌≡◌}
use Rattle.record_files.specs.Trees.{seen_items}
use Rattle.record_files.specs.Values.{each}
use Rattle.record_files.proofs.Lists.{with_front, from_value}
use Rattle.record_files.proofs.object.each_of.Given as goal

abbrev pub invariant-loop-value : goal.invariant-loop-value
invariant-loop-value g l =
    with_front l.read.items (from_value g.T.FromValue.read l.values l.value-index) ≡ each g.T.FromValue.read (seen_items l.values)
