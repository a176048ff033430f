use Rattle.std.proofs.Common.{◌++◌, refl, true, arith}
use Rattle.std.proofs.Output.{has_written_append}
use Rattle.nextest_filter_syntax.specs.Trees.{tree_of}
use Rattle.nextest_filter_syntax.specs.Levels.{opening}
use Rattle.nextest_filter_syntax.proofs.LevelFacts.{openings_next}
use Rattle.nextest_filter_syntax.proofs.parsed_expr.ParsedExpr.write_openings.Goals as goal

pub loop-levels-preserved : goal.loop-levels-preserved
loop-levels-preserved g c = λ plain.
    let before = c.loop-levels.invariant plain in
    let more = c.in_ok-write_opening.ensures before.1.plain (refl {a = true}) in (
      before.0 ++ opening (tree_of c.loop-levels.rest.now),
      has_written_append _ _ _ _ _ _ before.1 more,
      openings_next c.loop-levels.levels (tree_of c.loop-levels.rest.now) (tree_of c.left-rest.result.now) before.0 _ (omega (arith, c.loop-levels-test.true)) c.left-rest.ensures before.2,
    )
