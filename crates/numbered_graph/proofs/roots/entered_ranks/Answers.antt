use Rattle.std.proofs.Common.{◌≡◌, ◌+◌, ◌<◌, length, get_or, slice_set, true, All, Vec, Global, Bool, sym, subst, ap, ◌∙◌, arith, true≢false}
use Rattle.std.proofs.lemmas.List.{length-set}
use Rattle.numbered_graph.specs.Roots.{AreEntered, IsEntry}
use Rattle.numbered_graph.proofs.RootFacts.{entered_more, entered_same}
use Rattle.numbered_graph.proofs.roots.entered_ranks.Goals as goal
use Rattle.numbered_graph.proofs.roots.entered_ranks.Goals.{then-near-far+then-is_inside, else-near-far, else-near-far-via-then-near-far+else-is_inside, else-near-far-via-else-near-far}

pub loop-number-preserved : goal.loop-number-preserved
loop-number-preserved c =
    let d = c.args.direction in
    let links = c.args.graph.now.links in
    let ranks = c.args.ranks.now in
    let set = c.args.set.now in
    let j = c.loop-number.number in
    let flags = c.loop-number.entered.items in
    let before = c.loop-number.invariant in
    let near = c.near.ensures.value in
    let far = c.far.ensures.value in
    let at = ap (λ n. get_or ranks n 0) far in
    elim c.if-near-far.branch [
      | then-near-far+then-is_inside w ↦ (
          let entry : IsEntry d links ranks set j = record { inside = sym w.is_inside.ensures ∙ w.if-is_inside.true; crosses = λ same. w.if-near-far.true (ap (λ n. get_or ranks n 0) near ∙ same ∙ sym at) } in
          let in_ranks : c.far.result < length ranks = let node = c.far.ensures.node in let sized = c.requires in omega arith in
          let small = subst (λ r. r < length flags) at (before.sized c.far.result 0 in_ranks) in
          record {
            entered = subst (λ (v : Vec Bool Global). AreEntered d links ranks set (j + 1) v.items) (sym w.entered-is) (subst (λ r. AreEntered d links ranks set (j + 1) (slice_set flags r true)) (sym at) (entered_more before.entered entry small));
            sized = subst (λ (v : Vec Bool Global). All (λ r. r < length v.items) ranks) (sym w.entered-is) (subst (λ n. All (λ r. r < n) ranks) (sym (length-set flags (get_or ranks c.far.result 0) true)) before.sized);
          }
          )
      | else-near-far w ↦ (
          let none : ¬ IsEntry d links ranks set j = elim w.else-near-far.branch [ else-near-far-via-then-near-far+else-is_inside w' ↦ λ entry. true≢false (sym entry.inside ∙ sym w'.is_inside.ensures ∙ w'.if-is_inside.false) | else-near-far-via-else-near-far w' ↦ λ entry. entry.crosses (sym (ap (λ n. get_or ranks n 0) near) ∙ w'.if-near-far.false ∙ at) ] in
          record {
            entered = subst (λ (v : Vec Bool Global). AreEntered d links ranks set (j + 1) v.items) (sym w.entered-is) (entered_same before.entered none);
            sized = subst (λ (v : Vec Bool Global). All (λ r. r < length v.items) ranks) (sym w.entered-is) before.sized;
          }
          )
    ]

pub returns-clause-entered : goal.returns-clause-entered
returns-clause-entered c =
    let end : c.loop-number.number ≡ length c.args.graph.now.links = let value = ap length c.links-number-end.ensures.value in omega arith in
    subst (λ n. AreEntered c.args.direction c.args.graph.now.links c.args.ranks.now c.args.set.now n c.loop-number.entered.items) end c.loop-number.invariant.entered
