use Rattle.std.proofs.Common.{◌≡◌, ◌∙◌, ◌<◌, ◌∷◌, suc, IfNone, IfSome, ap, length, map, subst, sym, arith}
use Rattle.std.proofs.lemmas.List.{length-map}
use Rattle.numbered_graph.specs.Chains.{IsNextLink}
use Rattle.numbered_graph.specs.Graphs.{GraphValue}
use Rattle.numbered_graph.specs.Links.{near_at}
use Rattle.guppy_package_table.specs.Tables.{link_between, ids_of, numbered_links}
use Rattle.guppy_package_graph.specs.DirectViews.{links_next}
use Rattle.guppy_package_graph.specs.Queries.{places_of}
use Rattle.guppy_package_graph.specs.Views.{number_of}
use Rattle.guppy_package_graph.proofs.DirectFacts.{begins, goes_on}
use Rattle.guppy_package_graph.proofs.direct_links.DirectLinksIterator.next.Goals as goal

pub returns-clause-steps : goal.returns-clause-steps
returns-clause-steps c =
    let self = c.args.self.now in
    let g = self.graph.now in
    let links = numbered_links g in
    let d = self.direction in
    let number = c.in_ok-number.number in
    let next = c.next_link-self.result in
    let graph : c.graph.result.now ≡ places_of g = c.graph.ensures ∙ ap places_of c.table.ensures in
    let here = subst (λ n. IfSome n (λ j. (j < length g.links) × (near_at d links j ≡ self.place))) c.in_ok-number.was self.in_range in
    let some = subst (λ v. IfSome next (λ j. (j < length links) × IsNextLink d links v (suc number) j)) here.1 (subst (λ (x : GraphValue). IfSome next (λ j. (j < length x.links) × IsNextLink d x.links (near_at d x.links number) (suc number) j)) graph c.next_link-self.ensures.some) in
    let none = subst (λ v. IfNone next (IsNextLink d links v (suc number) (length links))) here.1 (subst (λ (x : GraphValue). IfNone next (IsNextLink d x.links (near_at d x.links number) (suc number) (length x.links))) graph c.next_link-self.ensures.none) in
    let within : number < length links = subst (λ n. number < n) (sym (length-map g.links (link_between (ids_of g.packages)))) here.0 in
    let rest = links_next links d self.place next in
    let left = ap (links_next links d self.place) c.in_ok-number.was ∙ goes_on d links self.place number within here.1 ∙ ap (λ xs. number ∷ xs) (begins d links self.place (suc number) next some none) in
    let seen = ap (λ t. (t, number_of c.link_at.result)) c.link_at.ensures.graph ∙ ap (λ n. (g, n)) c.link_at.ensures.number in
    ap (map (λ j. (g, j))) left ∙ ap (λ x. x ∷ map (λ j. (g, j)) rest) (sym seen)

pub returns-clause-goes : goal.returns-clause-goes
returns-clause-goes c =
    let sizes = ap length (returns-clause-steps c) in
    record { on = λ finite. (tt, tt, omega (arith, sizes)); keeps = tt; rests = λ finite. tt }
