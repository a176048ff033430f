use Rattle.std.proofs.Common.{ℕ, List, String, subst}
use Rattle.std.specs.Global.{Global}
use Rattle.list_facts.specs.Writers.{AddsUpTo}
use Rattle.std.proofs.lemmas.Result.{err_from_is_err_and}
use Rattle.list_facts.specs.Texts.{pair_of}
use Rattle.list_facts.proofs.Written.{fails_at}
use Rattle.test_select_tests.specs.Selections.{line}
use Rattle.test_select_tests.proofs.report.write_lines.Goals as goal

pub returns-in_err-write_line : goal.returns-in_err-write_line
returns-in_err-write_line g c =
    let p = err_from_is_err_and c.from_residual.result c.from_residual.ensures.1 in
    rw p.1 (fails_at (λ p. line (pair_of p)) c.args.pairs.now c.loop-pair.pair-index c.pair-item.result c.loop-pair-test.true _ _ _ c.loop-pair.invariant (subst (λ (p : String Global × String Global). (rest : List ℕ) × AddsUpTo (g.W.Write.contents c.loop-pair.writer) (g.W.Write.contents c.write_line.new.writer) (line (pair_of p)) rest) c.pair-item.is c.in_err-write_line.ensures))
