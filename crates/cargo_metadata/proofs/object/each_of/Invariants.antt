use Rattle.std.proofs.Common.{◌≡◌}
use Rattle.serde_json.specs.View.{items_view}
use Rattle.cargo_metadata.specs.Values.{each}
use Rattle.cargo_metadata.proofs.Lists.{with_front, from_value}
use Rattle.cargo_metadata.proofs.object.each_of.Given as goal

abbrev pub invariant-loop-value : goal.invariant-loop-value
invariant-loop-value g l =
    with_front l.read.items (from_value g.T.FromValue.read l.values l.value-index) ≡ each g.T.FromValue.read (items_view l.values)
