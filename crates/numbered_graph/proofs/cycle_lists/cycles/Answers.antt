use Rattle.std.proofs.Common.{◌≡◌, ℕ, ◌<◌, ◌≤◌, true, Vec, Global, length, get_or, map, filter, replicate, sym, subst, ap, ◌∙◌, All, AllPairs, IsPermutation}
use Rattle.std.proofs.lemmas.List.{length-map, length-replicate}
use Rattle.std.proofs.lemmas.List.Elements.{All-filter}
use Rattle.std.proofs.lemmas.List.Sorted.{All-permutation}
use Rattle.std.proofs.lemmas.Result.{IfOk-weaker}
use Rattle.numbered_graph.specs.Listings.{numbers_below}
use Rattle.numbered_graph.specs.Ranks.{AreRanks}
use Rattle.numbered_graph.specs.Cycles.{AreKeysTogether, AreRuns, AreLevels, key_of}
use Rattle.numbered_graph.specs.Sets.{has}
use Rattle.numbered_graph.proofs.ListingFacts.{IfOk-both}
use Rattle.numbered_graph.proofs.Numbers.{numbers-small}
use Rattle.numbered_graph.proofs.PathFacts.{Reaches-by_all}
use Rattle.numbered_graph.proofs.RankFacts.{AreRanks-by_all}
use Rattle.numbered_graph.proofs.CycleFacts.{AreCycles-from_runs, AreKeyed-by_keys, on_cycle_within, rising_together, together_filter}
use Rattle.numbered_graph.proofs.cycle_lists.cycles.Goals as goal

pub on_levels-requires-clause-order : goal.on_levels-requires-clause-order
on_levels-requires-clause-order c =
    let keys = c.in_ok-keys.keys.items in
    let order = c.in_ok-order.order.items in
    let perm = subst (λ ks. IsPermutation (numbers_below (length ks)) order) c.deref-3.ensures.value c.in_ok-order.ensures.each in
    subst (λ ks. All (λ v. v < length ks) c.deref-6.result.now) (sym c.deref-7.ensures.value) (subst (λ xs. All (λ v. v < length keys) xs) (sym c.deref-6.ensures.value) (All-permutation (λ v. v < length keys) (numbers_below (length keys)) order perm (numbers-small (length keys))))

pub runs_of-requires-clause-within : goal.runs_of-requires-clause-within
runs_of-requires-clause-within c =
    let keys = c.in_ok-keys.keys.items in
    let order = c.in_ok-order.order.items in
    let perm = subst (λ ks. IsPermutation (numbers_below (length ks)) order) c.deref-3.ensures.value c.in_ok-order.ensures.each in
    let kept = λ (v : ℕ). has c.deref-8.result.now (get_or c.deref-7.result.now v 0) in
    let members = c.deref-9.ensures.value ∙ c.in_ok-members.ensures ∙ ap (filter kept) c.deref-6.ensures.value in
    subst (λ ks. All (λ v. v < length ks) c.deref-9.result.now) (sym c.deref-10.ensures.value) (subst (λ xs. All (λ v. v < length keys) xs) (sym members) (All-filter kept (λ v. v < length keys) order (All-permutation (λ v. v < length keys) (numbers_below (length keys)) order perm (numbers-small (length keys)))))

pub runs_of-requires-clause-together : goal.runs_of-requires-clause-together
runs_of-requires-clause-together c =
    let keys = c.in_ok-keys.keys.items in
    let order = c.in_ok-order.order.items in
    let kept = λ (v : ℕ). has c.deref-8.result.now (get_or c.deref-7.result.now v 0) in
    let members = c.deref-9.ensures.value ∙ c.in_ok-members.ensures ∙ ap (filter kept) c.deref-6.ensures.value in
    let rising : AllPairs (λ u v. get_or keys u 0 ≤ get_or keys v 0) order = subst (λ ks. AllPairs (λ u v. get_or ks u 0 ≤ get_or ks v 0) order) c.deref-3.ensures.value (λ i j d lt small. (c.in_ok-order.ensures.order i j d lt small).0) in
    subst (λ ks. AreKeysTogether ks c.deref-9.result.now) (sym c.deref-10.ensures.value) (subst (AreKeysTogether keys) (sym members) (together_filter keys kept order (rising_together keys order rising)))

pub returns : goal.returns
returns c =
    let links = c.args.graph.now.links in
    let nodes = c.args.graph.now.nodes in
    let ranks = c.in_ok-ranks.ranks.items in
    let keys = c.in_ok-keys.keys.items in
    let order = c.in_ok-order.order.items in
    let levels = c.in_ok-levels.levels.items in
    let lists = λ (cs : Vec (Vec ℕ Global) Global). map (λ (v : Vec ℕ Global). v.items) cs.items in
    let flags : c.deref.result.now ≡ replicate (length links) true = c.deref.ensures.value ∙ c.in_ok-all.ensures ∙ ap (λ ls. replicate (length ls) true) c.links.ensures.value in
    let all = AreRanks-by_all links (has (replicate (length links) true)) nodes ranks (Reaches-by_all links) (subst (λ passes. AreRanks links (has passes) nodes ranks) flags c.in_ok-ranks.ensures.ranks) in
    let top = c.in_ok-keys.ensures.0 in
    let most = subst (All (λ r. r ≤ top)) c.deref-2.ensures.value c.in_ok-keys.ensures.1 in
    let made = c.in_ok-keys.ensures.2 ∙ ap (map (key_of c.args.direction top)) c.deref-2.ensures.value in
    let count = ap length made ∙ length-map ranks (key_of c.args.direction top) ∙ all.sized in
    let perm = subst (λ n. IsPermutation (numbers_below n) order) (ap length c.deref-3.ensures.value ∙ count) c.in_ok-order.ensures.each in
    let are_levels = subst (λ ks. AreLevels links ks (length links) levels) c.deref-5.ensures.value c.in_ok-levels.ensures.levels in
    let members = c.deref-9.ensures.value ∙ c.in_ok-members.ensures ∙ ap (filter (λ v. has c.deref-8.result.now (get_or c.deref-7.result.now v 0))) c.deref-6.ensures.value ∙ ap (λ fs. filter (λ v. has fs (get_or c.deref-7.result.now v 0)) order) c.deref-8.ensures.value ∙ ap (λ ks. filter (λ v. has levels (get_or ks v 0)) order) c.deref-7.ensures.value in
    let rising : AllPairs (λ u v. get_or keys u 0 ≤ get_or keys v 0) order = subst (λ ks. AllPairs (λ u v. get_or ks u 0 ≤ get_or ks v 0) order) c.deref-3.ensures.value (λ i j d lt small. (c.in_ok-order.ensures.order i j d lt small).0) in
    let keyed = AreKeyed-by_keys c.args.direction all most made perm rising in
    let are = IfOk-both c.runs_of.result c.runs_of.ensures.whole c.runs_of.ensures.runs (λ cs whole runs. AreCycles-from_runs c.links.ensures.within keyed are_levels (lists cs) (whole ∙ members) (subst (λ ks. AreRuns ks (lists cs)) c.deref-10.ensures.value runs)) in
    record { cycles = are; within = IfOk-weaker c.runs_of.result _ _ (λ cs is v inside. on_cycle_within nodes links c.links.ensures.within v ((is.each v).0 inside)) are }

pub component_ranks-requires : goal.component_ranks-requires
component_ranks-requires c =
    ap length (c.deref.ensures.value ∙ c.in_ok-all.ensures) ∙ length-replicate (length c.links.result.now) true ∙ ap length c.links.ensures.value

pub in_order-requires : goal.in_order-requires
in_order-requires c = ap length (c.deref-4.ensures.value ∙ sym c.deref-3.ensures.value)

pub levels_of-requires : goal.levels_of-requires
levels_of-requires c =
    ap length (c.deref-5.ensures.value ∙ c.in_ok-keys.ensures.2) ∙ length-map c.deref-2.result.now (key_of c.args.direction c.in_ok-keys.ensures.0) ∙ ap length c.deref-2.ensures.value ∙ c.in_ok-ranks.ensures.ranks.sized

pub on_levels-requires-clause-levels : goal.on_levels-requires-clause-levels
on_levels-requires-clause-levels c =
    subst (All (λ k. k < length c.deref-8.result.now)) (c.deref-5.ensures.value ∙ sym c.deref-7.ensures.value) (subst (λ fs. All (λ k. k < length fs) c.deref-5.result.now) (sym c.deref-8.ensures.value) c.in_ok-levels.ensures.sized)
