use Rattle.std.proofs.Common.{◌≡◌, ℕ, zero, suc, ◌-◌, ◌<◌, List, [], ◌∷◌, ◌++◌, All, append-nil, append_assoc, get_or, length, take, ap, subst, sym, ◌∙◌, arith}
use Rattle.std.proofs.lemmas.List.{get_or_read}
use Rattle.numbered_graph.specs.Searches.{IsCut}
use Rattle.numbered_graph.proofs.ListParts.{split_last}
use Rattle.numbered_graph.proofs.components.join.Goals as goal

past_more : (place last : ℕ) (ends : List ℕ) → place < last → All (λ s. place < s) ends → All (λ s. place < s) (last ∷ ends)
past_more place last ends lt h zero d small = lt
past_more place last ends lt h (suc k) d small = h k d (omega arith)

pub loop-starts-init : goal.loop-starts-init
loop-starts-init c = record { ends = []; cut = sym (append-nil c.args.starts.now.items); past = λ k d lt. absurd (omega arith) }

pub loop-starts-preserved : goal.loop-starts-preserved
loop-starts-preserved c =
    let left = c.loop-starts.starts.items in
    let before = c.loop-starts.invariant in
    let some : 0 < length left = let test = c.loop-starts-test.true in omega (arith, c.len.ensures) in
    let last = get_or left (length left - 1) 0 in
    let size : c.len-in-loop-starts.result - 1 ≡ length left - 1 = omega (arith, c.len-in-loop-starts.ensures) in
    let read = get_or_read left (c.len-in-loop-starts.result - 1) c.index.result.now (omega (arith, size)) c.index.ensures 0 ∙ ap (λ n. get_or left n 0) size in
    let items = c.truncate.ensures.items ∙ ap (λ n. take n left) (omega (arith, c.len-in-loop-starts-2.ensures)) in
    subst (IsCut c.args.place c.args.starts.now.items) (sym items) (record {
      ends = last ∷ before.ends;
      cut = before.cut ∙ ap (λ xs. xs ++ before.ends) (split_last left some) ∙ append_assoc (take (length left - 1) left) (last ∷ []) before.ends;
      past = past_more c.args.place last before.ends (subst (λ s. c.args.place < s) read c.if-index-place.true) before.past;
    })
