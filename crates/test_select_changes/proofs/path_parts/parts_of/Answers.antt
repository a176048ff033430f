use Rattle.std.proofs.Common.{◌∙◌, ap, filter, lit<}
use Rattle.std.proofs.lemmas.Iterator.Consumers.{YieldsList-at, YieldsList-end}
use Rattle.std.proofs.lemmas.Iterator.Splits.{YieldsList-from_str_split}
use Rattle.guppy_package_rules.specs.Paths.{is_part}
use Rattle.test_select_changes.proofs.path_parts.parts_of.Goals as goal

pub returns : goal.returns
returns c =
    let pieces = YieldsList-from_str_split 47 c.args.path.now (lit< tt) c.split-part-items.ensures.text c.split-part-items.ensures.has_more c.split-part-items.ensures.pattern in
    let ended = YieldsList-end (YieldsList-at c.into_iter-part-iterator.ensures.into_iter_gives pieces) c.loop-part.yielded _ c.loop-part.yielded_by _ _ c.in-None.is c.next.ensures.steps in
    c.loop-part.invariant ∙ ap (filter is_part) ended.0
