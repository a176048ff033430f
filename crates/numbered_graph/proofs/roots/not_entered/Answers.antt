use Rattle.std.proofs.Common.{◌≡◌, ℕ, Bool, ◌&&◌, not, get_or, sym, ap, ◌∙◌}
use Rattle.numbered_graph.specs.Sets.{has}
use Rattle.numbered_graph.proofs.Numbers.{kept_more}
use Rattle.numbered_graph.proofs.roots.not_entered.Goals as goal
use Rattle.numbered_graph.proofs.roots.not_entered.Goals.{then-contains, else-contains}

pub loop-node-preserved : goal.loop-node-preserved
loop-node-preserved c =
    let node = c.loop-node.node in
    let stays = λ (v : ℕ). has c.args.set.now v && not (has c.args.entered.now (get_or c.args.ranks.now v 0)) in
    let by = λ (b : Bool). b && not (has c.args.entered.now (get_or c.args.ranks.now node 0)) in
    let flag : c.if-contains.push_if ≡ stays node = elim c.if-contains.branch [
      | then-contains w ↦ w.push_if-is ∙ ap by (sym w.if-contains.true ∙ c.contains.ensures.member)
      | else-contains w ↦ w.push_if-is ∙ w.if-contains.false ∙ ap by (sym w.if-contains.false ∙ c.contains.ensures.member)
    ] in
    kept_more stays node c.loop-node.nodes.items _ c.if-contains.push_if c.in_ok-push_if.ensures flag c.loop-node.invariant
