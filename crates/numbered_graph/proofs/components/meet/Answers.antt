use Rattle.std.proofs.Common.{◌≡◌, ◌-◌, ◌<◌, get_or, inl, refl, subst, sym, ◌∙◌, arith, true≢false}
use Rattle.std.proofs.lemmas.List.{get_or_read}
use Rattle.numbered_graph.specs.Sets.{has}
use Rattle.numbered_graph.specs.Searches.{lists_of, IsOpen, Meets, Searches}
use Rattle.numbered_graph.proofs.SearchMeeting.{met_open, Meets-open, met_join, Meets-join}
use Rattle.numbered_graph.proofs.components.meet.Goals as goal

pub returns-then-index-eq0-clause-searches : goal.returns-then-index-eq0-clause-searches
returns-then-index-eq0-clause-searches c =
    let s = c.args.search.now in
    let within = subst (λ n. c.far-far.result < n) (sym c.requires.searches.sized.places_sized) c.far-far.ensures.node in
    let new : get_or s.places.items c.far-far.result 0 ≡ 0 = let read = get_or_read s.places.items c.far-far.result c.index-2.result.now within c.index-2.ensures 0 in let none = c.if-index-eq0.true in omega arith in
    subst (Searches c.args.graph.now.links (has c.args.passes.now) c.args.graph.now.nodes) (sym c.in_ok-open.ensures) (met_open c.requires.searches c.args.number c.requires.number c.if-not-passes-number.false c.requires.knot c.far-far.result c.far-far.ensures.value c.far-far.ensures.node new)

pub returns-then-index-eq0-clause-met : goal.returns-then-index-eq0-clause-met
returns-then-index-eq0-clause-met c =
    let s = c.args.search.now in
    let within = subst (λ n. c.far-far.result < n) (sym c.requires.searches.sized.places_sized) c.far-far.ensures.node in
    let new : get_or s.places.items c.far-far.result 0 ≡ 0 = let read = get_or_read s.places.items c.far-far.result c.index-2.result.now within c.index-2.ensures 0 in let none = c.if-index-eq0.true in omega arith in
    subst (Meets c.args.graph.now.links (has c.args.passes.now) c.args.number (lists_of s)) (sym c.in_ok-open.ensures) (Meets-open c.requires.searches c.args.number c.requires.number c.if-not-passes-number.false c.requires.knot c.far-far.result c.far-far.ensures.value c.far-far.ensures.node new)

pub returns-clause-searches : goal.returns-clause-searches
returns-clause-searches c =
    let s = c.args.search.now in
    let in_places = subst (λ n. c.far-far.result < n) (sym c.requires.searches.sized.places_sized) c.far-far.ensures.node in
    let in_ranks = subst (λ n. c.far-far.result < n) (sym c.requires.searches.sized.ranks_sized) c.far-far.ensures.node in
    let rank = get_or_read s.ranks.items c.far-far.result c.index.result.now in_ranks c.index.ensures 0 in
    let place = get_or_read s.places.items c.far-far.result c.index-2.result.now in_places c.index-2.ensures 0 in
    let again = get_or_read s.places.items c.far-far.result c.index-3.result.now in_places c.index-3.ensures 0 in
    let is_open : IsOpen s.places.items s.ranks.items c.far-far.result (c.index-3.result.now - 1) = record { placed = let some = c.if-index-eq0.false in omega arith; unranked = let none = c.if-index-gt0.false in omega arith } in
    met_join c.requires.searches c.args.number c.requires.number c.if-not-passes-number.false c.requires.knot c.far-far.result c.far-far.ensures.value (c.index-3.result.now - 1) is_open c.join.new.starts.items c.join.ensures

pub returns-clause-met : goal.returns-clause-met
returns-clause-met c =
    let s = c.args.search.now in
    let in_places = subst (λ n. c.far-far.result < n) (sym c.requires.searches.sized.places_sized) c.far-far.ensures.node in
    let in_ranks = subst (λ n. c.far-far.result < n) (sym c.requires.searches.sized.ranks_sized) c.far-far.ensures.node in
    let rank = get_or_read s.ranks.items c.far-far.result c.index.result.now in_ranks c.index.ensures 0 in
    let place = get_or_read s.places.items c.far-far.result c.index-2.result.now in_places c.index-2.ensures 0 in
    let again = get_or_read s.places.items c.far-far.result c.index-3.result.now in_places c.index-3.ensures 0 in
    let is_open : IsOpen s.places.items s.ranks.items c.far-far.result (c.index-3.result.now - 1) = record { placed = let some = c.if-index-eq0.false in omega arith; unranked = let none = c.if-index-gt0.false in omega arith } in
    Meets-join c.requires.searches c.args.number c.requires.number c.if-not-passes-number.false c.requires.knot c.far-far.result c.far-far.ensures.value (c.index-3.result.now - 1) is_open c.join.new.starts.items c.join.ensures

pub returns-then-not-passes-number-clause-searches : goal.returns-then-not-passes-number-clause-searches
returns-then-not-passes-number-clause-searches c = c.requires.searches

pub returns-then-not-passes-number-clause-met : goal.returns-then-not-passes-number-clause-met
returns-then-not-passes-number-clause-met c = record {
  cursors = refl;
  starts = omega arith;
  todo = omega arith;
  still_open = λ v i o. o;
  seen = λ i passed o. absurd (true≢false (sym passed ∙ c.if-not-passes-number.true));
}

pub returns-then-not-passes-number-clause-kept : goal.returns-then-not-passes-number-clause-kept
returns-then-not-passes-number-clause-kept c = λ v placed. placed

pub returns-then-index-gt0-clause-searches : goal.returns-then-index-gt0-clause-searches
returns-then-index-gt0-clause-searches c = c.requires.searches

pub returns-then-index-gt0-clause-met : goal.returns-then-index-gt0-clause-met
returns-then-index-gt0-clause-met c =
    let s = c.args.search.now in
    let in_ranks = subst (λ n. c.far-far.result < n) (sym c.requires.searches.sized.ranks_sized) c.far-far.ensures.node in
    let rank = get_or_read s.ranks.items c.far-far.result c.index.result.now in_ranks c.index.ensures 0 in
    record {
      cursors = refl;
      starts = omega arith;
      todo = omega arith;
      still_open = λ v i o. o;
      seen = λ i passed o. inl (subst (λ v. 0 < get_or s.ranks.items v 0) c.far-far.ensures.value (subst (λ n. 0 < n) rank c.if-index-gt0.true));
    }

pub returns-then-index-gt0-clause-kept : goal.returns-then-index-gt0-clause-kept
returns-then-index-gt0-clause-kept c = λ v placed. placed

pub returns-clause-kept : goal.returns-clause-kept
returns-clause-kept c = λ v placed. placed
