use Rattle.std.proofs.Common.{◌≡◌, Bor, take}
use Rattle.std.specs.Fn.{FnReturnsAt}
use Rattle.std.specs.List.{list_any}
use Rattle.std.specs.Str.{bytes_eq}
use Rattle.workspace_record.specs.Records.{Text}
use Rattle.workspace_record.specs.TextSets.{has_text}
use Rattle.workspace_record.proofs.text_sets.text_set.Given as goal

abbrev pub invariant-loop-item : goal.invariant-loop-item
invariant-loop-item g l = (name : g.row.T.Denot → Text) → ((y : g.row.T.Denot) (t : Bor Text) → FnReturnsAt g.F.Fn l.text y t → t.now ≡ name y) → (x : Text) → has_text l.set x ≡ list_any (λ y. bytes_eq x (name y)) (take l.item-index l.items)
