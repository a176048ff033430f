use Rattle.std.proofs.Common.{◌≡◌, ◌∙◌, ◌-◌, ◌<◌, ℕ, suc, if◌then◌else◌, take_all, List, Vec, Global, ap, arith, get_or, length, map, subst, sym}
use Rattle.std.proofs.lemmas.List.{get_or-map, length-map}
use Rattle.numbered_graph.specs.CycleNumbers.{AreNumbers}
use Rattle.numbered_graph.specs.Cycles.{has_node}
use Rattle.numbered_graph.proofs.CycleNumbering.{numbers_more}
use Rattle.numbered_graph.proofs.numbered_cycles.NumberedCycles.of.Goals as goal

pub loop-number-preserved : goal.loop-number-preserved
loop-number-preserved c =
    let cycles = c.args.cycles.items in
    let k = c.loop-number.number - 1 in
    let lists : List (List ℕ) = map (λ (v : Vec ℕ Global). v.items) cycles in
    let most = c.loop-number.invariant.within in
    let some = c.loop-number-test.true in
    let before : k < length cycles = omega (arith, most, some) in
    let lt : k < length lists = subst (λ n. k < n) (sym (length-map cycles (λ (v : Vec ℕ Global). v.items))) before in
    let next : c.loop-number.number ≡ suc k = omega (arith, some) in
    let list = c.deref-node-items.result.now in
    let is : list ≡ get_or lists k list = c.deref-node-items.ensures.value ∙ ap (λ (v : Vec ℕ Global). v.items) c.index.ensures ∙ sym (get_or-map (λ (v : Vec ℕ Global). v.items) cycles k c.index.result.now list before) in
    record {
      within = omega (arith, most);
      numbers = numbers_more c.args.nodes lists k c.loop-number.numbers.items c.loop-node.numbers.items list lt is
          (subst (λ j. AreNumbers c.args.nodes lists j c.loop-number.numbers.items) next c.loop-number.invariant.numbers) c.loop-node.invariant.sized (subst (λ xs. (v : ℕ) → v < length c.loop-number.numbers.items → get_or c.loop-node.numbers.items v 0 ≡ (if has_node v xs then k else get_or c.loop-number.numbers.items v 0)) (take_all c.loop-node.node-index list c.loop-node-test.false) c.loop-node.invariant.each);
    }
