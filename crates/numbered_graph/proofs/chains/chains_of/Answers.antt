use Rattle.std.proofs.Common.{◌≡◌, suc, ◌-◌, ◌<◌, length, replicate, set, subst, sym, arith, rules}
use Rattle.std.proofs.lemmas.List.{get_or_read}
use Rattle.numbered_graph.specs.Chains.{AreChained}
use Rattle.numbered_graph.proofs.ChainFacts.{chained_more, chained_none}
use Rattle.numbered_graph.proofs.RootFacts.{ends_within}
use Rattle.numbered_graph.proofs.chains.chains_of.Goals as goal

pub loop-at-init : goal.loop-at-init
loop-at-init c =
    let links = c.args.links.now in
    let first : c.in_ok-first.first.items ≡ replicate c.args.nodes (length links) = search rules in
    let next : c.in_ok-next.next.items ≡ replicate (length links) (length links) = search rules in
    record {
      so_far = subst (AreChained c.args.direction c.args.nodes links (length links) c.in_ok-first.first.items) (sym next) (subst (λ xs. AreChained c.args.direction c.args.nodes links (length links) xs (replicate (length links) (length links))) (sym first) (chained_none c.args.direction c.args.nodes links));
      within = omega arith;
    }

pub loop-at-preserved : goal.loop-at-preserved
loop-at-preserved c =
    let links = c.args.links.now in
    let before = c.loop-at.invariant in
    let k = c.loop-at.at - 1 in
    let on : c.loop-at.at ≡ suc k = let some = c.loop-at-test.true in omega arith in
    let lt : k < length links = let within = before.within in let some = c.loop-at-test.true in omega arith in
    let node = c.near-node.result in
    let is = c.near-node.ensures.value in
    let known : node < c.args.nodes = subst (λ n. n < c.args.nodes) (sym is) (ends_within c.args.direction c.args.nodes links c.requires k lt).0 in
    let so_far = subst (λ n. AreChained c.args.direction c.args.nodes links n c.loop-at.first.items c.loop-at.next.items) on before.so_far in
    let in_first : node < length c.loop-at.first.items = let sized = so_far.first_sized in omega arith in
    let read = get_or_read c.loop-at.first.items node c.index.result.now in_first c.index.ensures 0 in
    record {
      so_far = subst (λ n. AreChained c.args.direction c.args.nodes links k (set c.loop-at.first.items node k) (set c.loop-at.next.items k n)) (sym read) (chained_more so_far lt node is known);
      within = omega arith;
    }

pub returns : goal.returns
returns c =
    let none : c.loop-at.at ≡ 0 = let past = c.loop-at-test.false in omega arith in
    subst (λ n. AreChained c.args.direction c.args.nodes c.args.links.now n c.loop-at.first.items c.loop-at.next.items) none c.loop-at.invariant.so_far
