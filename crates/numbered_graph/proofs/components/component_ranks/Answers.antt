use Rattle.std.proofs.Common.{◌≡◌, ◌∙◌, ◌<◌, get_or, subst, sym, ap, ⊎_elim, arith, rules}
use Rattle.std.proofs.lemmas.Bool.{cases_eq}
use Rattle.numbered_graph.specs.Sets.{has}
use Rattle.numbered_graph.specs.Searches.{Searches}
use Rattle.numbered_graph.proofs.SearchEnds.{AreRanks-at_end, Searches-start, zeros}
use Rattle.numbered_graph.proofs.components.component_ranks.Goals as goal

pub returns : goal.returns
returns c =
    let last = c.loop-root.invariant in
    record { ranks = AreRanks-at_end last.searches last.idle (λ v lt. last.placed v (let nodes = c.node_count-nodes.ensures.count in omega arith)) }

pub loop-root-init : goal.loop-root-init
loop-root-init c =
    let links = c.args.graph.now.links in
    let nodes = c.args.graph.now.nodes in
    let first = c.in_ok-first_links.field-0.items in
    let count = ap zeros c.node_count-nodes.ensures.count in
    let places_made : c.in_ok-vec.field-0.items ≡ zeros c.node_count-nodes.result = search rules in
    let ranks_made : c.in_ok-vec-2.field-0.items ≡ zeros c.node_count-nodes.result = search rules in
    let places = sym (places_made ∙ count) in
    let ranks = sym (ranks_made ∙ count) in
    let path = sym c.new.ensures.items in
    let starts = sym c.new-2.ensures.items in
    let todo = sym c.new-3.ensures.items in
    record {
      searches = subst (Searches links (has c.args.passes.now) nodes) (λ i. record { cursors = first; places = places i; ranks = ranks i; path = path i; starts = starts i; todo = todo i; closed = 0 }) (Searches-start links (has c.args.passes.now) nodes first c.in_ok-first_links.ensures.sized c.in_ok-first_links.ensures.each);
      idle = c.new-2.ensures.items;
      placed = λ v lt. absurd (omega arith);
    }

pub loop-root-preserved : goal.loop-root-preserved
loop-root-preserved c =
    let before = c.loop-root.invariant in
    let after = c.in_ok-explore.ensures in
    record {
      searches = after.searches;
      idle = after.idle;
      placed = λ v lt. ⊎_elim (λ e. subst (λ u. 0 < get_or c.explore.new.search.places.items u 0) (sym e) after.placed) (λ ne. after.kept v (before.placed v (omega arith))) (cases_eq v c.loop-root.root);
    }
