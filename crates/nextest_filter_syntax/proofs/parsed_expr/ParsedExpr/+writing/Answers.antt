use Rattle.std.proofs.Common.{◌∙◌, ◌/◌, ◌++◌, ap, refl, true, arith}
use Rattle.std.proofs.Output.{has_written_append, has_written_of_eq}
use Rattle.nextest_filter_syntax.specs.Trees.{tree_of}
use Rattle.nextest_filter_syntax.specs.TreeTexts.{tree_text}
use Rattle.nextest_filter_syntax.specs.Levels.{closings, openings}
use Rattle.nextest_filter_syntax.proofs.LevelFacts.{closings_halved, difference_right, inner_lighter, inner_no_heavier, intersection_right, union_right, weight, whole_text}
use Rattle.nextest_filter_syntax.proofs.parsed_expr.ParsedExpr.+writing.Goals as goal

pub write_closing-write_to-requires : goal.write_closing-write_to-requires
write_closing-write_to-requires g t c κs within =
    let same = ap (λ e. weight (tree_of e)) c.deref.ensures in
    let lighter = union_right c.in-Union.op _ _ _ (ap tree_of c.in-Union.is) in
    (omega (arith, c.decreases, same, lighter), within)

pub write_closing-write_to-requires-in-Intersection : goal.write_closing-write_to-requires-in-Intersection
write_closing-write_to-requires-in-Intersection g t c κs within =
    let same = ap (λ e. weight (tree_of e)) c.deref-in-Intersection.ensures in
    let lighter = intersection_right c.in-Intersection.op _ _ _ (ap tree_of c.in-Intersection.is) in
    (omega (arith, c.decreases, same, lighter), within)

pub write_closing-write_to-requires-in-Difference : goal.write_closing-write_to-requires-in-Difference
write_closing-write_to-requires-in-Difference g t c κs within =
    let same = ap (λ e. weight (tree_of e)) c.deref-in-Difference.ensures in
    let lighter = difference_right _ _ _ (ap tree_of c.in-Difference.is) in
    (omega (arith, c.decreases, same, lighter), within)

pub write_closings-write_closings-requires : goal.write_closings-write_closings-requires
write_closings-write_closings-requires g t c κs within =
    let inner = inner_no_heavier (c.args.levels / 2) (tree_of c.args.self.now) _ c.descend.ensures in
    (omega (arith, c.decreases, inner), within)

pub write_closings-returns-in_ok-write_closings-in_default : goal.write_closings-returns-in_ok-write_closings-in_default
write_closings-returns-in_ok-write_closings-in_default g t c = λ plain ok.
    let inner = c.in_ok-write_closings-in_default.ensures plain (refl {a = true}) in
    let outer = c.write_closings-in_default.ensures inner.plain ok in
    let text = closings_halved c.args.levels (tree_of c.args.self.now) (tree_of c.descend.result.now) c.descend.ensures in
    has_written_of_eq _ _ _ _ _ text (has_written_append _ _ _ _ _ _ inner outer)

pub write_to-write_to-requires : goal.write_to-write_to-requires
write_to-write_to-requires g t c κs within =
    let lighter = inner_lighter c.left_levels-levels.result c.args.self.now _ c.left_levels-levels.ensures c.in_default.not-Set c.descend.ensures in
    (omega (arith, c.decreases, lighter), within)

pub write_to-returns : goal.write_to-returns
write_to-returns g t c = λ plain ok.
    let before = c.in_ok-write_openings.ensures plain (refl {a = true}) in
    let inner = c.in_ok-write_to.ensures before.plain (refl {a = true}) in
    let after = c.write_closings.ensures inner.plain ok in
    let levels = c.left_levels-levels.result in
    let whole = tree_of c.args.self.now in
    let text = ap (λ u. openings levels whole ++ (tree_text u ++ closings levels whole)) c.descend.ensures ∙ whole_text levels whole in
    has_written_of_eq _ _ _ _ _ text (has_written_append _ _ _ _ _ _ before (has_written_append _ _ _ _ _ _ inner after))
