use Rattle.std.proofs.Common.{◌≡◌, take}
use Rattle.workspace_record.proofs.texts.copy_each.Given as goal

abbrev pub invariant-loop-item : goal.invariant-loop-item
invariant-loop-item g l = l.copies.items ≡ take l.item-index l.items
