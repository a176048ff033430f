use Rattle.std.proofs.Common.{◌≡◌, ◌↔◌, ◌∙◌, Bool, IsTrue, ap, false, length, subst, sym, true}
use Rattle.std.proofs.lemmas.List.{length-replicate}
use Rattle.numbered_graph.specs.ListedViews.{listed_left}
use Rattle.numbered_graph.specs.Sets.{has}
use Rattle.numbered_graph.proofs.ChoiceFacts.{choosing_none, choosing_more, each_asked, none_has}
use Rattle.guppy_feature_nodes.specs.Graphs.{FeatureGraphValue}
use Rattle.guppy_feature_graph.specs.Filters.{AsksFeature}
use Rattle.guppy_feature_graph.proofs.choosing.choose.Goals as goal

pub loop-node-init : goal.loop-node-init
loop-node-init g c =
    let count = c.feature_count.ensures.count ∙ ap (λ (t : FeatureGraphValue). length t.nodes) c.graph-graph.ensures.graph in
    let also = c.feature_count-2.ensures.count ∙ ap (λ (t : FeatureGraphValue). length t.nodes) c.graph-graph.ensures.graph in
    let one = c.in_ok-firsts.ensures.members in
    let two = c.in_ok-seconds.ensures.members in
    record {
      choosing = choosing_none (listed_left c.listed-nodes.result) c.args.first c.args.second c.in_ok-firsts.firsts c.in_ok-seconds.seconds c.listed-nodes.ensures.listed (λ v h. none_has c.feature_count.result v (subst (λ s. has s v ≡ true) one h)) (λ v h. none_has c.feature_count-2.result v (subst (λ s. has s v ≡ true) two h)) (ap length one ∙ length-replicate c.feature_count.result false ∙ count) (ap length two ∙ length-replicate c.feature_count-2.result false ∙ also) c.listed-nodes.ensures.within;
      callable = c.requires.callable;
    }

pub loop-node-preserved : goal.loop-node-preserved
loop-node-preserved g c =
    let was = c.loop-node.invariant in
    let answer = c.ask_about-answer.result in
    let asks = subst (λ (t : FeatureGraphValue). AsksFeature g.F.FnMut t c.loop-node.callback c.in-Some.node answer c.ask_about-answer.new.callback) c.graph-graph.ensures.graph c.ask_about-answer.ensures.asks in
    let one = subst (λ (b : Bool). IsTrue b ↔ (answer ≡ c.args.first)) (sym c.eq.ensures) (c.requires.told answer c.args.first) in
    let two = subst (λ (b : Bool). IsTrue b ↔ (answer ≡ c.args.second)) (sym c.eq-in-Some.ensures) (c.requires.told answer c.args.second) in
    record {
      choosing = choosing_more c.in-Some.node (listed_left c.loop-node.nodes) (listed_left c.next.new.self) c.loop-node.callback c.ask_about-answer.new.callback c.args.first c.args.second answer c.eq.result c.eq-in-Some.result c.loop-node.firsts c.loop-node.seconds c.insert_if.new.self c.insert_if-in-Some.new.self c.in-Some.ensures.steps was.choosing asks one two c.insert_if.ensures.sized c.insert_if-in-Some.ensures.sized c.insert_if.ensures.members c.insert_if-in-Some.ensures.members;
      callable = c.ask_about-answer.ensures.callable;
    }

pub returns-clause-ok : goal.returns-clause-ok
returns-clause-ok g c =
    let was = c.loop-node.invariant.choosing in
    (was.asked, record { each = each_asked (listed_left c.loop-node.nodes) c.in_default.ensures.steps.0 was; chain = was.chain }, was.has_one, was.has_two)
