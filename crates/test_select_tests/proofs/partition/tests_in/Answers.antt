use Rattle.std.proofs.Common.{◌∙◌, sym, ap, filter, map}
use mathlib.Core.List.{map-id}
use Rattle.std.proofs.lemmas.Iterator.Adapters.{YieldsList-from_vec}
use Rattle.std.proofs.lemmas.Iterator.Consumers.{YieldsList-at, YieldsList-end, YieldsList-from_enumerate}
use Rattle.test_select_tests.specs.Partitions.{is_in_part}
use Rattle.test_select_tests.proofs.partition.tests_in.Goals as goal

pub returns : goal.returns
returns c =
    let size = c.into_iter.ensures.len ∙ c.args.tests.ok.0 in
    let items = YieldsList-from_vec c.args.tests.items c.into_iter.ensures.rest size in
    let source = YieldsList-at c.enumerate-place-items.ensures.source items in
    let pairs = YieldsList-from_enumerate source c.enumerate-place-items.ensures.count in
    let here = YieldsList-at c.into_iter-place-iterator.ensures.into_iter_gives pairs in
    let ended = YieldsList-end here c.loop-place.yielded c.loop-place.place-iterator c.loop-place.yielded_by c.next.result c.next.new.self c.in-None.is c.next.ensures.steps in
    c.loop-place.invariant
    ∙ ap (λ xs. map (λ e. e.1) (filter (λ e. is_in_part c.args.partition.part c.args.partition.parts e.0) xs)) (sym (map-id c.loop-place.yielded) ∙ ended.0)
