use Rattle.std.proofs.Common.{◌≡◌, ℕ, ◌-◌, ◌<◌, ◌≤◌, List, length, get_or, set, sum_by, subst, sym, ap, ◌∙◌, arith}
use Rattle.std.proofs.lemmas.List.{get_or_read, length_push}
use Rattle.std.proofs.lemmas.List.Sums.{sum_by-set}
use Rattle.numbered_graph.specs.declared.direction.Direction.TheVariants.{Reverse}
use Rattle.numbered_graph.specs.Links.{near_at}
use Rattle.numbered_graph.specs.Sets.{has}
use Rattle.numbered_graph.specs.Searches.{lists_of, IsInLastKnot, Searches}
use Rattle.numbered_graph.proofs.ListParts.{take-front}
use Rattle.numbered_graph.proofs.SearchMeeting.{open_within}
use Rattle.numbered_graph.proofs.SearchPassing.{Searches-pass, Searches-rest}
use Rattle.numbered_graph.proofs.components.follow.Goals as goal

pub returns-then-number-links-clause-searches : goal.returns-then-number-links-clause-searches
returns-then-number-links-clause-searches c =
    let s = c.args.search.now in
    let h = c.requires.searches in
    let within = open_within h c.args.node c.requires.knot.place c.requires.knot.is_open in
    let in_cursors = subst (λ n. c.args.node < n) (sym h.sized.cursors_sized) within in
    let number = get_or_read s.cursors.items c.args.node c.index-number.result.now in_cursors c.index-number.ensures 0 in
    let past = subst (λ links. length links ≤ c.index-number.result.now) c.links.ensures.value c.if-number-links.true in
    let done = subst (λ m. length c.args.graph.now.links ≤ m) number past in
    let front = c.truncate.ensures.items ∙ take-front s.todo.items c.requires.last.0 c.args.node (c.len.result - 1) c.requires.last.1 (let size = ap length c.requires.last.1 ∙ length_push c.requires.last.0 c.args.node in omega (arith, c.len.ensures)) in
    subst (λ xs. Searches c.args.graph.now.links (has c.args.passes.now) c.args.graph.now.nodes (record (lists_of s) { todo = xs })) (sym front) (Searches-rest h c.args.node within c.requires.last.0 c.requires.last.1 done)

pub meet-requires-clause-knot : goal.meet-requires-clause-knot
meet-requires-clause-knot c =
    let s = c.args.search.now in
    let h = c.requires.searches in
    let within = open_within h c.args.node c.requires.knot.place c.requires.knot.is_open in
    let in_cursors = subst (λ n. c.args.node < n) (sym h.sized.cursors_sized) within in
    let number = get_or_read s.cursors.items c.args.node c.index-number.result.now in_cursors c.index-number.ensures 0 in
    let small = subst (λ links. c.index-number.result.now < length links) c.links.ensures.value c.if-number-links.false in
    subst (IsInLastKnot (lists_of s)) (sym (ap (near_at Reverse c.args.graph.now.links) number ∙ h.cursors.follows c.args.node within (subst (λ m. m < length c.args.graph.now.links) number small))) c.requires.knot

pub returns-clause-searches : goal.returns-clause-searches
returns-clause-searches c =
    let s = c.args.search.now in
    let h = c.requires.searches in
    let met = c.in_ok-meet.ensures.met in
    let within = open_within h c.args.node c.requires.knot.place c.requires.knot.is_open in
    let in_cursors = subst (λ n. c.args.node < n) (sym h.sized.cursors_sized) within in
    let number = get_or_read s.cursors.items c.args.node c.index-number.result.now in_cursors c.index-number.ensures 0 in
    let small = subst (λ links. c.index-number.result.now < length links) c.links.ensures.value c.if-number-links.false in
    let at = subst (λ xs. c.index-number.result.now ≡ get_or xs c.args.node 0) (sym met.cursors) number in
    Searches-pass c.in_ok-meet.ensures.searches c.args.node within c.index-number.result.now c.next_of.result at small c.next_of.ensures c.requires.knot.place (met.still_open c.args.node c.requires.knot.place c.requires.knot.is_open) met.seen

pub returns-then-number-links-clause-less : goal.returns-then-number-links-clause-less
returns-then-number-links-clause-less c =
    let s = c.args.search.now in
    let size = ap length c.requires.last.1 ∙ length_push c.requires.last.0 c.args.node in
    let front = c.truncate.ensures.items ∙ take-front s.todo.items c.requires.last.0 c.args.node (c.len.result - 1) c.requires.last.1 (omega (arith, c.len.ensures)) in
    let left = ap length front in
    omega (arith, size, left)

pub returns-then-number-links-clause-kept : goal.returns-then-number-links-clause-kept
returns-then-number-links-clause-kept c = λ v placed. placed

pub returns-clause-less : goal.returns-clause-less
returns-clause-less c =
    let s = c.args.search.now in
    let links = c.args.graph.now.links in
    let h = c.requires.searches in
    let met = c.in_ok-meet.ensures.met in
    let left = λ (n : ℕ). length links - n in
    let within = open_within h c.args.node c.requires.knot.place c.requires.knot.is_open in
    let in_cursors = subst (λ n. c.args.node < n) (sym h.sized.cursors_sized) within in
    let number = get_or_read s.cursors.items c.args.node c.index-number.result.now in_cursors c.index-number.ensures 0 in
    let small = subst (λ ls. c.index-number.result.now < length ls) c.links.ensures.value c.if-number-links.false in
    let changed = sum_by-set left s.cursors.items c.args.node c.next_of.result 0 in_cursors in
    let was = ap left number in
    let same = ap (λ (xs : List ℕ). sum_by left (set xs c.args.node c.next_of.result)) met.cursors in
    let next = c.next_of.ensures.from_here in
    let starts = met.starts in
    let todo = met.todo in
    omega arith

pub returns-clause-kept : goal.returns-clause-kept
returns-clause-kept c = c.in_ok-meet.ensures.kept
