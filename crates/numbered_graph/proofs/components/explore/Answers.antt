use Rattle.std.proofs.Common.{◌≡◌, ◌<◌, get_or, subst, sym, ap, arith}
use Rattle.std.proofs.lemmas.List.{get_or_read}
use Rattle.numbered_graph.specs.Sets.{has}
use Rattle.numbered_graph.specs.Searches.{Lists, Searches}
use Rattle.numbered_graph.proofs.SearchOpening.{there, kept_placed, Searches-open}
use Rattle.numbered_graph.proofs.SearchEnds.{no_path}
use Rattle.numbered_graph.proofs.components.explore.Goals as goal

pub loop-search-init : goal.loop-search-init
loop-search-init c =
    let s = c.args.search.now in
    let h = c.requires.searches in
    let within = subst (λ n. c.args.root < n) (sym h.sized.places_sized) c.requires.root in
    let new : get_or s.places.items c.args.root 0 ≡ 0 = let read = get_or_read s.places.items c.args.root c.index.result.now within c.index.ensures 0 in let none = c.if-index-gt0.false in omega arith in
    let places = ap (λ (t : Lists). t.places) c.in_ok-open.ensures in
    record {
      searches = subst (Searches c.args.graph.now.links (has c.args.passes.now) c.args.graph.now.nodes) (sym c.in_ok-open.ensures) (Searches-open h c.args.root c.requires.root new (λ k lt. absurd (let none = no_path h c.requires.idle in omega arith)));
      kept = λ v placed. subst (λ xs. 0 < get_or xs v 0) (sym places) (kept_placed h c.args.root c.requires.root new v placed);
      placed = subst (λ xs. 0 < get_or xs c.args.root 0) (sym places) (let placed = there h c.args.root c.requires.root new in omega arith);
    }

pub returns-then-index-gt0-clause-searches : goal.returns-then-index-gt0-clause-searches
returns-then-index-gt0-clause-searches c = c.requires.searches

pub returns-then-index-gt0-clause-placed : goal.returns-then-index-gt0-clause-placed
returns-then-index-gt0-clause-placed c =
    let s = c.args.search.now in
    let within = subst (λ n. c.args.root < n) (sym c.requires.searches.sized.places_sized) c.requires.root in
    subst (λ n. 0 < n) (get_or_read s.places.items c.args.root c.index.result.now within c.index.ensures 0) c.if-index-gt0.true

pub returns-then-index-gt0-clause-kept : goal.returns-then-index-gt0-clause-kept
returns-then-index-gt0-clause-kept c = λ v placed. placed

pub loop-search-preserved : goal.loop-search-preserved
loop-search-preserved c =
    let before = c.loop-search.invariant in
    let after = c.in_ok-step.ensures in
    record { searches = after.searches; kept = λ v placed. after.kept v (before.kept v placed); placed = after.kept c.args.root before.placed }

pub loop-search-smaller : goal.loop-search-smaller
loop-search-smaller c = c.in_ok-step.ensures.less

pub returns-clause-searches : goal.returns-clause-searches
returns-clause-searches c = c.loop-search.invariant.searches

pub returns-clause-placed : goal.returns-clause-placed
returns-clause-placed c = c.loop-search.invariant.placed

pub returns-clause-kept : goal.returns-clause-kept
returns-clause-kept c = c.loop-search.invariant.kept
