use Rattle.std.proofs.Common.{flat_map, string_bytes, take}
use Rattle.std.specs.Io.KnownBytes.{Appends}
use Rattle.test_select.specs.Orders.{order_line}
use Rattle.test_select.proofs.order.write_order.Given as goal

abbrev pub invariant-loop-id : goal.invariant-loop-id
invariant-loop-id g l =
    Appends (g.W.Write.contents l.fn.writer) (g.W.Write.contents l.writer) (flat_map (λ id. order_line (string_bytes id)) (take l.id-index l.ids))
