use Rattle.std.proofs.Common.{◌≡◌, ℕ, filter, length, true, false, Vec, Global, ap, subst, sym, ◌∙◌, arith}
use Rattle.numbered_graph.specs.Listings.{numbers_below}
use Rattle.numbered_graph.specs.Sets.{has}
use Rattle.numbered_graph.proofs.MemberFacts.{members_rise, members_are, members_small}
use Rattle.numbered_graph.proofs.Numbers.{kept_more}
use Rattle.numbered_graph.proofs.node_set.NodeSet.members.Goals.{then-flags-node+in_ok-push, else-flags-node}
use Rattle.numbered_graph.proofs.node_set.NodeSet.members.Goals as goal

pub returns : goal.returns
returns c =
    let nodes = c.loop-node.nodes.items in
    let end : c.loop-node.node ≡ length c.deref-flags.result.now = omega arith in
    let is = subst (λ flags. nodes ≡ filter (has flags) (numbers_below (length flags))) (c.deref-flags.ensures.value ∙ c.self.view_is) (c.loop-node.invariant ∙ ap (λ n. filter (has c.deref-flags.result.now) (numbers_below n)) end) in
    record {
      members = is;
      ascending = members_rise c.args.self.now nodes is;
      each = members_are c.args.self.now nodes is;
      within = members_small c.args.self.now nodes is;
    }

pub loop-node-preserved : goal.loop-node-preserved
loop-node-preserved c =
    let set = has c.deref-flags.result.now in
    let node = c.loop-node.node in
    let so_far = c.loop-node.invariant in
    elim c.if-flags-node.branch [ then-flags-node+in_ok-push w ↦ kept_more set node _ _ true (ap (λ (v : Vec ℕ Global). v.items) w.nodes-is ∙ w.in_ok-push.ensures.items) (sym w.if-flags-node.true) so_far | else-flags-node w ↦ kept_more set node _ _ false (ap (λ (v : Vec ℕ Global). v.items) w.nodes-is) (sym w.if-flags-node.false) so_far ]
