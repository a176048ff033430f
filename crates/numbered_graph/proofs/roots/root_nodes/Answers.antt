use Rattle.std.proofs.Common.{◌≡◌, ◌<◌, ◌↔◌, ◌&&◌, not, true, length, get_or, filter, replicate, Contains, All, AllPairs, subst, sym, ap, ◌∙◌}
use Rattle.std.proofs.lemmas.Result.{IfOk-weaker}
use Rattle.numbered_graph.specs.Listings.{numbers_below}
use Rattle.numbered_graph.specs.Ranks.{AreRanks}
use Rattle.numbered_graph.specs.Roots.{IsRoot, AreEntered}
use Rattle.numbered_graph.specs.Sets.{has}
use Rattle.numbered_graph.proofs.Kept.{AllPairs-filter}
use Rattle.numbered_graph.proofs.MemberFacts.{filter_small}
use Rattle.numbered_graph.proofs.Numbers.{numbers-rising}
use Rattle.numbered_graph.proofs.PathFacts.{Reaches-by_all}
use Rattle.numbered_graph.proofs.RankFacts.{AreRanks-by_all}
use Rattle.numbered_graph.proofs.RootFacts.{roots_iff}
use Rattle.numbered_graph.proofs.roots.root_nodes.Goals as goal

pub returns-clause-ascending : goal.returns-clause-ascending
returns-clause-ascending c =
    IfOk-weaker c.not_entered.result _ _ (λ _ is. subst (AllPairs (λ x y. x < y)) (sym is) (AllPairs-filter (λ x y. x < y) _ (numbers_below (length c.deref-3.result.now)) (numbers-rising (length c.deref-3.result.now)))) c.not_entered.ensures

pub returns-clause-each : goal.returns-clause-each
returns-clause-each c =
    let links = c.args.graph.now.links in
    let nodes = c.args.graph.now.nodes in
    let set = c.args.set.now in
    let ranks = c.in_ok-ranks.ranks.items in
    let entered = c.in_ok-entered.entered.items in
    let flags : c.deref.result.now ≡ replicate (length links) true = c.deref.ensures.value ∙ c.in_ok-all.ensures ∙ ap (λ ls. replicate (length ls) true) c.links.ensures.value in
    let all = AreRanks-by_all links (has (replicate (length links) true)) nodes ranks (Reaches-by_all links) (subst (λ passes. AreRanks links (has passes) nodes ranks) flags c.in_ok-ranks.ensures.ranks) in
    let enters = subst (λ rs. AreEntered c.args.direction links rs set (length links) entered) c.deref-2.ensures.value c.in_ok-entered.ensures.entered in
    let kept = ap (λ rs. filter (λ u. has set u && not (has c.deref-4.result.now (get_or rs u 0))) (numbers_below (length rs))) c.deref-3.ensures.value ∙ ap (λ es. filter (λ u. has set u && not (has es (get_or ranks u 0))) (numbers_below (length ranks))) c.deref-4.ensures.value ∙ ap (λ n. filter (λ u. has set u && not (has entered (get_or ranks u 0))) (numbers_below n)) all.sized in
    IfOk-weaker c.not_entered.result _ _ (λ _ is v. subst (λ xs. Contains xs v ↔ ((has set v ≡ true) × IsRoot c.args.direction links set v)) (sym (is ∙ kept)) (roots_iff c.links.ensures.within all c.requires enters v)) c.not_entered.ensures

pub returns-clause-within : goal.returns-clause-within
returns-clause-within c =
    let n = length c.deref-3.result.now in
    let count = ap (λ rs. length rs) c.deref-3.ensures.value ∙ c.in_ok-ranks.ensures.ranks.sized in
    IfOk-weaker c.not_entered.result _ _ (λ roots is. subst (λ m. All (λ v. v < m) roots.items) count (subst (All (λ v. v < n)) (sym is) (filter_small _ n))) c.not_entered.ensures
