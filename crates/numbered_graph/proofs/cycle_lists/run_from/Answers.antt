use Rattle.std.proofs.Common.{◌≡◌, ◌++◌, ◌∷◌, [], All, append_assoc, length, get_or, take, subst, sym, ap, ◌∙◌, arith}
use Rattle.std.proofs.lemmas.List.{length_push, take_more}
use Rattle.std.proofs.lemmas.List.Elements.{All-push}
use Rattle.numbered_graph.proofs.RunFacts.{run_ends}
use Rattle.numbered_graph.proofs.cycle_lists.run_from.Goals as goal
use Rattle.numbered_graph.proofs.cycle_lists.run_from.Goals.{then-loop-at-test+else-keys-nodes, else-loop-at-test}

pub loop-at-preserved : goal.loop-at-preserved
loop-at-preserved c =
    let keys = c.args.keys.now in
    let nodes = c.args.nodes.now in
    let run = c.loop-at.run.items in
    let node = get_or nodes c.loop-at.at 0 in
    let before = c.loop-at.invariant in
    let items = c.in_ok-push.ensures.items in
    record {
      at = let so_far = before.at in let size = ap length items ∙ length_push run node in omega arith;
      within = let lt = c.loop-at-test.true in omega arith;
      whole = ap (λ xs. take c.args.start nodes ++ xs) items ∙ sym (append_assoc (take c.args.start nodes) run (node ∷ [])) ∙ ap (λ xs. xs ++ node ∷ []) before.whole ∙ sym (take_more nodes c.loop-at.at 0 c.loop-at-test.true);
      level = subst (All (λ v. get_or keys v 0 ≡ get_or keys (get_or nodes c.args.start 0) 0)) (sym items) (All-push (λ v. get_or keys v 0 ≡ get_or keys (get_or nodes c.args.start 0) 0) run node before.level c.if-keys-nodes.true);
    }

pub returns : goal.returns
returns c =
    let last = c.loop-at.invariant in
    run_ends c.args.keys.now c.args.nodes.now c.args.start c.loop-at.at c.loop-at.run.items c.requires.start last.at last.within last.whole last.level (elim c.loop-at-test.branch [ then-loop-at-test+else-keys-nodes w ↦ λ lt. w.if-keys-nodes.false | else-loop-at-test w ↦ λ lt. let past = w.loop-at-test.false in absurd (omega arith) ])
