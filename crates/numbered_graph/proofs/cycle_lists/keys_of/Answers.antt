use Rattle.std.proofs.Common.{◌≡◌, ◌++◌, ◌∷◌, [], get_or, map, take, take_all, ap, sym, ◌∙◌}
use Rattle.list_facts.proofs.Lists.{map-take_more}
use Rattle.numbered_graph.specs.Cycles.{key_of}
use Rattle.numbered_graph.proofs.cycle_lists.keys_of.Goals.{in-Forward, in-Reverse}
use Rattle.numbered_graph.proofs.cycle_lists.keys_of.Goals as goal

pub loop-rank-preserved : goal.loop-rank-preserved
loop-rank-preserved c =
    let key = key_of c.args.direction c.highest-top.result in
    let rank = get_or c.args.ranks.now c.loop-rank.rank-index 0 in
    let is : c.match-direction.push ≡ key rank = elim c.match-direction.branch [
      | in-Forward w ↦ w.push-is ∙ ap (λ d. key_of d c.highest-top.result rank) (sym w.in-Forward.is)
      | in-Reverse w ↦ w.push-is ∙ ap (λ d. key_of d c.highest-top.result rank) (sym w.in-Reverse.is)
    ] in
    c.in_ok-push.ensures.items ∙ ap (λ ks. ks ++ c.match-direction.push ∷ []) c.loop-rank.invariant ∙ ap (λ k. map key (take c.loop-rank.rank-index c.args.ranks.now) ++ k ∷ []) is ∙ sym (map-take_more key c.args.ranks.now c.loop-rank.rank-index 0 c.loop-rank-test.true)

pub returns : goal.returns
returns c =
    let top = c.highest-top.result in
    (top, c.highest-top.ensures, c.loop-rank.invariant ∙ ap (map (key_of c.args.direction top)) (take_all c.loop-rank.rank-index c.args.ranks.now c.loop-rank-test.false))
