use Rattle.std.proofs.Common.{map, subst, sym, ◌∙◌}
use Rattle.test_select_c.specs.PieceViews.{file_view}
use Rattle.test_select_c.proofs.PieceFacts.{SoFar, is_nothing, is_something, no_file, pushed, read_all, read_more, read_none, same_file}
use Rattle.test_select_c.proofs.pieces.files_of.Goals as goal

pub loop-file-preserved : goal.loop-file-preserved
loop-file-preserved c =
    let bytes = c.args.bytes.now in
    subst (λ xs. SoFar same_file no_file bytes xs c.in-Some.behind.now) (pushed file_view c.loop-file.files.items c.push.new.self.items _ c.in_ok-push.ensures.items)
    (read_more same_file no_file bytes c.loop-file.rest.now c.in-Some.behind.now (map file_view c.loop-file.files.items) (file_view c.in-Some.file) c.loop-file.invariant c.in-Some.ensures.some)

pub returns-then-not-is_empty : goal.returns-then-not-is_empty
returns-then-not-is_empty c =
    read_none same_file no_file c.args.bytes.now c.loop-file.rest.now (map file_view c.loop-file.files.items) c.loop-file.invariant (is_something c.loop-file.rest.now (sym c.if-not-is_empty.true ∙ c.is_empty.ensures)) c.in_default.ensures.none

pub returns : goal.returns
returns c =
    read_all same_file no_file c.args.bytes.now (map file_view c.loop-file.files.items) (subst (SoFar same_file no_file c.args.bytes.now (map file_view c.loop-file.files.items)) (is_nothing c.loop-file.rest.now (sym c.if-not-is_empty.false ∙ c.is_empty.ensures)) c.loop-file.invariant)
