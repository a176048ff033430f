use Rattle.std.proofs.Common.{◌∙◌, ◌++◌, List, ap, ap₂, lit<, map}
use Rattle.std.specs.Borrow.{Bor}
use Rattle.std.proofs.lemmas.Iterator.Consumers.{YieldsList-at, YieldsList-end}
use Rattle.std.proofs.lemmas.Iterator.Splits.{YieldsList-from_str_split}
use Rattle.workspace_record.specs.Records.{Text}
use Rattle.test_select.specs.Changes.{lines_of}
use Rattle.test_select.proofs.changes.all_paths.Goals as goal

pub returns-clause-paths : goal.returns-clause-paths
returns-clause-paths c =
    let found = c.in-Ok.ensures.cases in
    let pieces = YieldsList-from_str_split 10 c.in-Ok.lines.now (lit< tt) c.split-line-items.ensures.text c.split-line-items.ensures.has_more c.split-line-items.ensures.pattern in
    let ended = YieldsList-end (YieldsList-at c.into_iter-line-iterator.ensures.into_iter_gives pieces) c.loop-line.yielded _ c.loop-line.yielded_by _ _ c.in-None.is c.next.ensures.steps in
    let words = ap (map (λ (t : Bor Text). t.now)) c.in_ok-paths.ensures.items ∙ c.values_of.ensures.values in
    (found.1, c.loop-line.invariant ∙ ap₂ (λ (l r : List Text). l ++ r) words (ended.0 ∙ ap lines_of found.0))
