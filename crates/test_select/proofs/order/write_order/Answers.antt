use Rattle.std.proofs.Common.{ℕ, List, String, string_bytes, subst}
use Rattle.std.specs.Global.{Global}
use Rattle.list_facts.specs.Writers.{AddsUpTo}
use Rattle.std.proofs.lemmas.Result.{err_from_is_err_and}
use Rattle.list_facts.proofs.Written.{fails_at}
use Rattle.test_select.specs.Orders.{order_line}
use Rattle.test_select.proofs.order.write_order.Goals as goal

pub returns-in_err-write_id : goal.returns-in_err-write_id
returns-in_err-write_id g c =
    let p = err_from_is_err_and c.from_residual.result c.from_residual.ensures.1 in
    let written : (rest : List ℕ) × AddsUpTo (g.W.Write.contents c.loop-id.writer) (g.W.Write.contents c.write_id.new.writer) (order_line (string_bytes c.id-item.result)) rest = subst (λ t. (rest : List ℕ) × AddsUpTo (g.W.Write.contents c.loop-id.writer) (g.W.Write.contents c.write_id.new.writer) (order_line t) rest) c.deref.ensures c.in_err-write_id.ensures in
    rw p.1 (record { writes = fails_at (λ id. order_line (string_bytes id)) c.args.ids.now c.loop-id.id-index c.id-item.result c.loop-id-test.true _ _ _ c.loop-id.invariant (subst (λ (id : String Global). (rest : List ℕ) × AddsUpTo (g.W.Write.contents c.loop-id.writer) (g.W.Write.contents c.write_id.new.writer) (order_line (string_bytes id)) rest) c.id-item.is written) })
