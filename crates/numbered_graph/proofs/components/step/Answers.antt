use Rattle.std.proofs.Common.{◌≡◌, ℕ, ◌+◌, ◌-◌, ◌<◌, ◌≤◌, ◌++◌, ◌∷◌, [], length, get_or, take, All, AllPairs, Contains, refl, subst, sym, ap, ◌∙◌, arith}
use Rattle.std.proofs.lemmas.List.{get_or_read}
use Rattle.std.proofs.lemmas.List.Elements.{All-push, All-weaker, All-contains, Contains-push}
use Rattle.numbered_graph.specs.Searches.{IsOpen}
use Rattle.numbered_graph.proofs.ListParts.{split_last, AllPairs-last}
use Rattle.numbered_graph.proofs.SearchMeeting.{open_within}
use Rattle.numbered_graph.proofs.SearchClosing.{Searches-closed}
use Rattle.numbered_graph.proofs.components.step.Goals as goal

pub last_past-requires-clause-within : goal.last_past-requires-clause-within
last_past-requires-clause-within c = λ k d lt.
    let h = c.requires.searches in
    let o = h.todo.opened k d lt in
    subst (λ n. get_or c.args.search.now.todo.items k d < n) (sym h.sized.places_sized) (open_within h (get_or c.args.search.now.todo.items k d) o.0 o.1)

pub follow-requires-clause-knot : goal.follow-requires-clause-knot
follow-requires-clause-knot c =
    let s = c.args.search.now in
    let h = c.requires.searches in
    let found = c.in-Some.ensures.some in
    let node = c.in-Some.node in
    let o = All-contains (λ v. (i : ℕ) × IsOpen s.places.items s.ranks.items v i) s.todo.items node h.todo.opened (subst (λ xs. Contains xs node) (sym found.1) (Contains-push found.0 node)) in
    let last_lt : length s.starts.items - 1 < length s.starts.items = let some = c.requires.knot in omega arith in
    let start : c.index-start.result.now ≡ get_or s.starts.items (length s.starts.items - 1) 0 = subst (λ i. c.index-start.result.now ≡ get_or s.starts.items i 0) (omega (arith, c.len.ensures)) (get_or_read s.starts.items (c.len.result - 1) c.index-start.result.now (omega (arith, c.len.ensures)) c.index-start.ensures 0) in
    let cut = split_last s.starts.items c.requires.knot in
    let up = subst (λ xs. All (λ a. a ≤ c.index-start.result.now) xs) (sym cut) (All-push (λ a. a ≤ c.index-start.result.now) (take (length s.starts.items - 1) s.starts.items) (get_or s.starts.items (length s.starts.items - 1) 0) (All-weaker (λ a. a < get_or s.starts.items (length s.starts.items - 1) 0) (λ a. a ≤ c.index-start.result.now) (λ a le. omega arith) (take (length s.starts.items - 1) s.starts.items) (AllPairs-last (λ a b. a < b) (take (length s.starts.items - 1) s.starts.items) (get_or s.starts.items (length s.starts.items - 1) 0) (subst (λ xs. AllPairs (λ a b. a < b) xs) cut h.starts.rising))) (omega arith)) in
    record {
      place = o.0;
      is_open = o.1;
      last = All-weaker (λ a. a ≤ c.index-start.result.now) (λ a. a ≤ o.0) (λ a le. let past = found.2 in let placed = o.1.placed in omega arith) s.starts.items up;
    }

pub returns-in-None-clause-searches : goal.returns-in-None-clause-searches
returns-in-None-clause-searches c =
    let s = c.args.search.now in
    let h = c.requires.searches in
    let start : c.index-start.result.now ≡ get_or s.starts.items (length s.starts.items - 1) 0 = subst (λ i. c.index-start.result.now ≡ get_or s.starts.items i 0) (omega (arith, c.len.ensures)) (get_or_read s.starts.items (c.len.result - 1) c.index-start.result.now (let some = c.requires.knot in omega (arith, c.len.ensures)) c.index-start.ensures 0) in
    let cut = split_last s.starts.items c.requires.knot ∙ ap (λ y. take (length s.starts.items - 1) s.starts.items ++ y ∷ []) (sym start) in
    let left = c.truncate.ensures.items ∙ ap (λ n. take n s.starts.items) (let size = c.len-in-None.ensures in omega arith) in
    Searches-closed h (take (length s.starts.items - 1) s.starts.items) c.index-start.result.now cut c.in-None.ensures.none c.close.new.ranks.items c.close.ensures.ranks c.close.new.path.items c.truncate.new.self.items (s.closed + 1) c.close.ensures.path left refl
