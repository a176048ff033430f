use Rattle.std.proofs.Common.{◌≡◌, ℕ, ◌<◌, true, Vec, Global, length, get_or, map, filter, replicate, sym, subst, ap, ◌∙◌, All}
use Rattle.std.proofs.lemmas.List.Elements.{All-filter}
use Rattle.std.proofs.lemmas.List.{length-replicate}
use Rattle.std.proofs.lemmas.Result.{IfOk-weaker}
use Rattle.numbered_graph.specs.Paths.{any_link}
use Rattle.numbered_graph.specs.Ranks.{AreRanks}
use Rattle.numbered_graph.specs.Cycles.{AreKeysTogether, AreRuns, AreLevels}
use Rattle.numbered_graph.specs.Sets.{has}
use Rattle.numbered_graph.proofs.ListingFacts.{IfOk-both}
use Rattle.numbered_graph.proofs.PathFacts.{Reaches-by_all}
use Rattle.numbered_graph.proofs.RankFacts.{AreRanks-by_all}
use Rattle.numbered_graph.proofs.CycleFacts.{AreCycles-from_runs, AreKeyed-listing, in_listing_order, listing_small, listing_together, on_cycle_within, together_filter}
use Rattle.numbered_graph.proofs.cycle_lists.listed_cycles.Goals as goal
use Rattle.numbered_graph.proofs.cycle_lists.listed_cycles.Goals.{In_ok-ranks}

all : (c : In_ok-ranks) → AreRanks c.args.graph.now.links any_link c.args.graph.now.nodes c.in_ok-ranks.ranks.items
all c =
    let links = c.args.graph.now.links in
    let nodes = c.args.graph.now.nodes in
    let ranks = c.in_ok-ranks.ranks.items in
    let flags : c.deref.result.now ≡ replicate (length links) true = c.deref.ensures.value ∙ c.in_ok-all.ensures ∙ ap (λ ls. replicate (length ls) true) c.links.ensures.value in
    AreRanks-by_all links (has (replicate (length links) true)) nodes ranks (Reaches-by_all links) (subst (λ passes. AreRanks links (has passes) nodes ranks) flags c.in_ok-ranks.ensures.ranks)

pub on_levels-requires-clause-order : goal.on_levels-requires-clause-order
on_levels-requires-clause-order c =
    let ranks = all (goal.at.on_levels-requires-clause-order c).In_ok-ranks in
    subst (λ n. All (λ v. v < n) c.args.listing.now) (sym (ap length c.deref-3.ensures.value ∙ ranks.sized)) (listing_small ranks c.requires.1)

pub runs_of-requires-clause-within : goal.runs_of-requires-clause-within
runs_of-requires-clause-within c =
    let ranks = all (goal.at.runs_of-requires-clause-within c).In_ok-ranks in
    let members = c.deref-5.ensures.value ∙ c.in_ok-members.ensures in
    let small = λ (v : ℕ). v < c.args.graph.now.nodes in
    subst (λ n. All (λ v. v < n) c.deref-5.result.now) (sym (ap length c.deref-6.ensures.value ∙ ranks.sized)) (subst (All small) (sym members) (All-filter _ small c.args.listing.now (listing_small ranks c.requires.1)))

pub runs_of-requires-clause-together : goal.runs_of-requires-clause-together
runs_of-requires-clause-together c =
    let ranks = c.in_ok-ranks.ranks.items in
    let members = c.deref-5.ensures.value ∙ c.in_ok-members.ensures in
    subst (λ ks. AreKeysTogether ks c.deref-5.result.now) (sym c.deref-6.ensures.value) (subst (AreKeysTogether ranks) (sym members) (together_filter ranks _ c.args.listing.now (listing_together (all (goal.at.runs_of-requires-clause-together c).In_ok-ranks) c.requires.1)))

pub returns : goal.returns
returns c =
    let links = c.args.graph.now.links in
    let levels = c.in_ok-levels.levels.items in
    let lists = λ (cs : Vec (Vec ℕ Global) Global). map (λ (v : Vec ℕ Global). v.items) cs.items in
    let keyed = AreKeyed-listing (all (goal.at.returns c).In_ok-ranks) c.requires.1 in
    let are_levels = subst (λ ks. AreLevels links ks (length links) levels) c.deref-2.ensures.value c.in_ok-levels.ensures.levels in
    let members = c.deref-5.ensures.value ∙ c.in_ok-members.ensures ∙ ap (λ fs. filter (λ v. has fs (get_or c.deref-3.result.now v 0)) c.args.listing.now) c.deref-4.ensures.value ∙ ap (λ ks. filter (λ v. has levels (get_or ks v 0)) c.args.listing.now) c.deref-3.ensures.value in
    let are = IfOk-both c.runs_of.result c.runs_of.ensures.whole c.runs_of.ensures.runs (λ cs whole runs. AreCycles-from_runs c.links.ensures.within keyed are_levels (lists cs) (whole ∙ members) (subst (λ ks. AreRuns ks (lists cs)) c.deref-6.ensures.value runs)) in
    record {
      cycles = are;
      listed = IfOk-weaker c.runs_of.result _ _ (λ cs whole. in_listing_order c.links.ensures.within keyed are_levels (lists cs) (whole ∙ members)) c.runs_of.ensures.whole;
      within = IfOk-weaker c.runs_of.result _ _ (λ cs is v inside. on_cycle_within c.args.graph.now.nodes links c.links.ensures.within v ((is.each v).0 inside)) are;
    }

pub component_ranks-requires : goal.component_ranks-requires
component_ranks-requires c =
    ap length (c.deref.ensures.value ∙ c.in_ok-all.ensures) ∙ length-replicate (length c.links.result.now) true ∙ ap length c.links.ensures.value

pub levels_of-requires : goal.levels_of-requires
levels_of-requires c = ap length c.deref-2.ensures.value ∙ c.in_ok-ranks.ensures.ranks.sized

pub on_levels-requires-clause-levels : goal.on_levels-requires-clause-levels
on_levels-requires-clause-levels c =
    subst (All (λ k. k < length c.deref-4.result.now)) (c.deref-2.ensures.value ∙ sym c.deref-3.ensures.value) (subst (λ fs. All (λ k. k < length fs) c.deref-2.result.now) (sym c.deref-4.ensures.value) c.in_ok-levels.ensures.sized)
