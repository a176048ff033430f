use Rattle.std.proofs.lemmas.Result.{err_from_is_err_and}
use Rattle.list_facts.proofs.Written.{fails_at}
use Rattle.list_facts.proofs.writing.write_pieces.Goals as goal

pub returns-in_err-write_bytes : goal.returns-in_err-write_bytes
returns-in_err-write_bytes g c =
    let p = err_from_is_err_and c.from_residual.result c.from_residual.ensures.1 in
    rw p.1 (fails_at (λ p. p.now) c.args.pieces.now c.loop-piece.piece-index _ c.loop-piece-test.true _ _ _ c.loop-piece.invariant c.in_err-write_bytes.ensures)
