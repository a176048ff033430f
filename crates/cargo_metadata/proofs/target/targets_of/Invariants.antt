use Rattle.std.proofs.Common.{◌≡◌}
use Rattle.serde_json.specs.View.{items_view}
use Rattle.cargo_metadata.specs.Values.{each}
use Rattle.cargo_metadata.specs.Packages.{target_of}
use Rattle.cargo_metadata.proofs.Lists.{with_front, from_value}
use Rattle.cargo_metadata.proofs.target.targets_of.Given as goal

abbrev pub invariant-loop-value : goal.invariant-loop-value
invariant-loop-value l =
    with_front l.targets.items (from_value (target_of l.«package») l.values l.value-index) ≡ each (target_of l.«package») (items_view l.values)
