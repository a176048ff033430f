use Rattle.std.proofs.Common.{◌≡◌, ◌+◌, ◌<◌, Bool, true, length, get_or, slice_set, All, Vec, Global, sym, subst, ap, ◌∙◌, arith}
use Rattle.std.proofs.lemmas.List.{length-set}
use Rattle.numbered_graph.specs.Cycles.{AreLevels}
use Rattle.numbered_graph.proofs.LevelFacts.{levels_more, levels_same}
use Rattle.numbered_graph.proofs.cycle_lists.levels_of.Goals.{then-from-to, else-from-to}
use Rattle.numbered_graph.proofs.cycle_lists.levels_of.Goals as goal

pub loop-number-preserved : goal.loop-number-preserved
loop-number-preserved c =
    let links = c.args.graph.now.links in
    let keys = c.args.keys.now in
    let j = c.loop-number.number in
    let flags = c.loop-number.levels.items in
    let before = c.loop-number.invariant in
    let from = ap (λ n. get_or keys n 0) c.near.ensures.value in
    let to = ap (λ n. get_or keys n 0) c.far.ensures.value in
    elim c.if-from-to.branch [
      | then-from-to w ↦ (
          let in_keys : c.near.result < length keys = let node = c.near.ensures.node in let sized = c.requires in omega arith in
          let small = subst (λ k. k < length flags) from (before.sized c.near.result 0 in_keys) in
          record {
            levels = subst (λ (v : Vec Bool Global). AreLevels links keys (j + 1) v.items) (sym w.levels-is) (subst (λ k. AreLevels links keys (j + 1) (slice_set flags k true)) (sym from) (levels_more before.levels (sym from ∙ w.if-from-to.true ∙ to) small));
            sized = subst (λ (v : Vec Bool Global). All (λ k. k < length v.items) keys) (sym w.levels-is) (subst (λ n. All (λ k. k < n) keys) (sym (length-set flags (get_or keys c.near.result 0) true)) before.sized);
          }
          )
      | else-from-to w ↦ record {
        levels = subst (λ (v : Vec Bool Global). AreLevels links keys (j + 1) v.items) (sym w.levels-is) (levels_same before.levels (λ same. w.if-from-to.false (from ∙ same ∙ sym to)));
        sized = subst (λ (v : Vec Bool Global). All (λ k. k < length v.items) keys) (sym w.levels-is) before.sized;
      }
    ]

pub returns-clause-levels : goal.returns-clause-levels
returns-clause-levels c =
    let end : c.loop-number.number ≡ length c.args.graph.now.links = let value = ap length c.links-number-end.ensures.value in omega arith in
    subst (λ n. AreLevels c.args.graph.now.links c.args.keys.now n c.loop-number.levels.items) end c.loop-number.invariant.levels
