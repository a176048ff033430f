use Rattle.std.proofs.Common.{◌≡◌, ◌∙◌, ◌↔◌, ◌<◌, ℕ, All, AllPairs, Contains, IsTrue, ap, false, get_or, true, ◌+◌, length, subst, sym, take, arith}
use Rattle.std.proofs.lemmas.List.{length-replicate, take_all, take_more}
use Rattle.numbered_graph.specs.Sets.{has}
use Rattle.numbered_graph.proofs.ChoiceFacts.{none_has}
use Rattle.guppy_package_graph.proofs.ResolveFacts.{SameSteps-refl, SameSteps-trans}
use Rattle.guppy_feature_graph.specs.Views.{feature_graph_of}
use Rattle.guppy_feature_graph.proofs.TakeFacts.{all_judged, pushed_length, taken_starts, taking_more, taking_none}
use Rattle.guppy_feature_graph.proofs.taking.take_by_filter.Goals as goal

pub loop-node-init : goal.loop-node-init
loop-node-init g c =
    let none = c.in_ok-included.ensures.members in
    let f = g.F.FeatureFilter in
    let empty = c.in_ok-starts.ensures.items in
    let capacity = c.in_ok-starts.ensures.capacity in
    let count = c.len.ensures in
    let sized = c.deref-node-items.ensures.len in
    let none_yet = ap length empty in
    record {
      taking = taking_none c.in_ok-included.included c.in_ok-starts.starts.items (λ v h. none_has c.feature_count.result v (subst (λ s. has s v ≡ true) none h)) empty (ap length none ∙ length-replicate c.feature_count.result false ∙ c.feature_count.ensures.count);
      same = SameSteps-refl (f.steps c.args.filter.now);
      can = c.requires.can;
      room = omega (arith, capacity, count, sized);
      behind = omega (arith, none_yet);
    }

pub loop-node-preserved : goal.loop-node-preserved
loop-node-preserved g c =
    let f = g.F.FeatureFilter in
    let was = c.loop-node.invariant in
    let items = c.deref-node-items.result.now in
    let i = c.loop-node.node-index in
    let v = get_or items i 0 in
    let b = c.ask_filter-accepted.result in
    let step = was.same.back _ _ _ _ c.ask_filter-accepted.ensures.step in
    let capacity = c.push_within.ensures.capacity in
    let room = was.room in
    let behind = was.behind in
    record {
      taking = taking_more v b (take i items) (take (i + 1) items) (f.state c.loop-node.filter) (f.state c.ask_filter-accepted.new.filter) c.loop-node.included c.insert_if.new.self c.loop-node.starts.items c.push_within.new.numbers.items (take_more items i 0 c.loop-node-test.true) was.taking step c.insert_if.ensures.sized c.insert_if.ensures.members c.push_within.ensures.items;
      same = SameSteps-trans was.same c.ask_filter-accepted.ensures.same;
      can = c.ask_filter-accepted.ensures.can;
      room = omega (arith, room, capacity);
      behind = pushed_length b c.loop-node.starts.items c.push_within.new.numbers.items v i c.push_within.ensures.items behind;
    }

pub returns-clause-starts : goal.returns-clause-starts
returns-clause-starts g c =
    let items = c.deref-node-items.result.now in
    let is = c.deref-node-items.ensures.value in
    let all : take c.loop-node.node-index items ≡ items = take_all c.loop-node.node-index items (omega (arith, c.loop-node-test.false)) in
    let whole = all ∙ is in
    let count = c.requires.sized in
    let within = subst (λ n. All (λ v. v < n) c.in_ok-nodes.nodes.items) count c.in_ok-nodes.ensures.within in
    taken_starts (length (feature_graph_of c.args.graph.now).nodes) (take c.loop-node.node-index items) c.loop-node.included c.loop-node.starts.items (subst (AllPairs (λ u v. u < v)) (sym whole) c.in_ok-nodes.ensures.ascending) (subst (All (λ v. v < length (feature_graph_of c.args.graph.now).nodes)) (sym whole) within) c.loop-node.invariant.taking

pub returns-clause-ok : goal.returns-clause-ok
returns-clause-ok g c =
    let items = c.deref-node-items.result.now in
    let is = c.deref-node-items.ensures.value in
    let all : take c.loop-node.node-index items ≡ items = take_all c.loop-node.node-index items (omega (arith, c.loop-node-test.false)) in
    let whole = all ∙ is in
    let was = c.loop-node.invariant.taking in
    let each = subst (λ xs. (v : ℕ) → Contains xs v ↔ IsTrue (has c.args.wanted.now v)) (sym whole) c.in_ok-nodes.ensures.each in
    (was.judged, all_judged (λ v. IsTrue (has c.args.wanted.now v)) (take c.loop-node.node-index items) c.loop-node.included c.loop-node.starts.items (subst (AllPairs (λ u v. u < v)) (sym whole) c.in_ok-nodes.ensures.ascending) each was, was.chain, was.has_true)
