use Rattle.std.proofs.Common.{◌≡◌, ◌∙◌, ◌+◌, ap, arith, rules}
use Rattle.nextest_filter_matchers.specs.declared.glob_pattern.Pattern.{the_lemmas}
use Rattle.nextest_filter_matchers.specs.GlobViews.{glob_of, tokens_in}
use Rattle.nextest_filter_matchers.specs.Globs.{Then}
use Rattle.nextest_filter_matchers.specs.Walks.{room, tokens_room}
use Rattle.nextest_filter_matchers.proofs.SequenceFacts.{room_then}
use Rattle.nextest_filter_matchers.proofs.glob_pattern.Pattern.+step.Goals as goal

pub step-is_led-requires : goal.step-is_led-requires
step-is_led-requires t c =
    let group = c.in-Grouped.group.value in
    let more = c.in-Grouped.more.value in
    let tokens = tokens_in c.in-Grouped.tokens.items in
    let whole : room (glob_of c.args.self.now) ≡ tokens_room tokens + (room (glob_of group) + room (glob_of more)) = ap (λ p. room (glob_of p)) c.in-Grouped.is ∙ room_then tokens (Then (glob_of group) (glob_of more)) in
    let front = ap (λ ts. tokens_room (tokens_in ts)) c.deref-in-Grouped.ensures.value in
    let room_first = ap (λ p. room (glob_of p)) c.deref-in-Grouped-2.ensures in
    (search (rules, the_lemmas), omega (arith, whole, front, room_first))

pub step-requires : goal.step-requires
step-requires t c =
    let group = c.in-Grouped.group.value in
    let more = c.in-Grouped.more.value in
    let tokens = tokens_in c.in-Grouped.tokens.items in
    let whole : room (glob_of c.args.self.now) ≡ tokens_room tokens + (room (glob_of group) + room (glob_of more)) = ap (λ p. room (glob_of p)) c.in-Grouped.is ∙ room_then tokens (Then (glob_of group) (glob_of more)) in
    let front = ap (λ ts. tokens_room (tokens_in ts)) c.deref-in-Grouped.ensures.value in
    let room_first = ap (λ p. room (glob_of p)) c.deref-in-Grouped-2.ensures in
    let room_second = ap (λ p. room (glob_of p)) c.deref-in-Grouped-3.ensures in
    (search (rules, the_lemmas), omega (arith, whole, front, room_first, room_second))
