use Rattle.std.proofs.Common.{ℕ, IsTrue, ◌≡◌, ◌∙◌, ap, false, length, subst, true}
use Rattle.std.proofs.lemmas.List.{length-replicate}
use Rattle.numbered_graph.specs.ListedViews.{listed_left}
use Rattle.numbered_graph.specs.Sets.{has}
use Rattle.numbered_graph.proofs.ChoiceFacts.{choosing_none, choosing_more, each_asked, none_has}
use Rattle.guppy_feature_nodes.specs.Graphs.{FeatureGraphValue}
use Rattle.guppy_feature_graph.specs.Filters.{AsksFeature}
use Rattle.guppy_feature_graph.proofs.choosing.choose_accepted.Goals as goal

pub loop-node-init : goal.loop-node-init
loop-node-init g c =
    let count = c.feature_count.ensures.count ∙ ap (λ (t : FeatureGraphValue). length t.nodes) c.graph-graph.ensures.graph in
    let one = c.in_ok-kept.ensures.members in
    let none : (v : ℕ) → IsTrue (has c.in_ok-kept.kept v) → ⊥ = λ v h. none_has c.feature_count.result v (subst (λ s. has s v ≡ true) one h) in
    let sized = ap length one ∙ length-replicate c.feature_count.result false ∙ count in
    record {
      choosing = choosing_none (listed_left c.listed-nodes.result) true true c.in_ok-kept.kept c.in_ok-kept.kept c.listed-nodes.ensures.listed none none sized sized c.listed-nodes.ensures.within;
      callable = c.requires;
    }

pub loop-node-preserved : goal.loop-node-preserved
loop-node-preserved g c =
    let was = c.loop-node.invariant in
    let answer = c.ask_about-answer.result in
    let asks = subst (λ (t : FeatureGraphValue). AsksFeature g.F.FnMut t c.loop-node.callback c.in-Some.node answer c.ask_about-answer.new.callback) c.graph-graph.ensures.graph c.ask_about-answer.ensures.asks in
    record {
      choosing = choosing_more c.in-Some.node (listed_left c.loop-node.nodes) (listed_left c.next.new.self) c.loop-node.callback c.ask_about-answer.new.callback true true answer _ _ c.loop-node.kept c.loop-node.kept c.insert_if.new.self c.insert_if.new.self c.in-Some.ensures.steps was.choosing asks (λ h. h, λ h. h) (λ h. h, λ h. h) c.insert_if.ensures.sized c.insert_if.ensures.sized c.insert_if.ensures.members c.insert_if.ensures.members;
      callable = c.ask_about-answer.ensures.callable;
    }

pub returns-clause-ok : goal.returns-clause-ok
returns-clause-ok g c =
    let was = c.loop-node.invariant.choosing in
    (was.asked, record { each = each_asked (listed_left c.loop-node.nodes) c.in_default.ensures.steps.0 was; chain = was.chain }, was.has_one)
