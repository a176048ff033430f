use Rattle.std.proofs.Common.{◌≡◌, ◌+◌, ◌∙◌, All, subst, sym, take}
use Rattle.std.proofs.lemmas.List.{map-id}
use Rattle.std.proofs.lemmas.List.Elements.{All-push}
use Rattle.list_facts.proofs.Lists.{both_more}
use Rattle.guppy_package_graph.specs.Views.{link_graph_of, number_of}
use Rattle.guppy_package_graph.proofs.set_parts.links_of.Goals as goal

pub loop-number-preserved : goal.loop-number-preserved
loop-number-preserved c =
    let was = c.loop-number.invariant in
    let more = c.in_ok-push.ensures.items in
    record {
      numbers = both_more number_of (λ v. v) c.loop-number.links.items c.push.new.self.items c.link_at.result c.args.numbers.now c.loop-number.number-index 0 c.loop-number-test.true more c.link_at.ensures.number (was.numbers ∙ sym (map-id (take c.loop-number.number-index c.args.numbers.now))) ∙ map-id (take (c.loop-number.number-index + 1) c.args.numbers.now);
      graphs = subst (All (λ m. link_graph_of m ≡ c.args.graph.now)) (sym more) (All-push (λ m. link_graph_of m ≡ c.args.graph.now) _ _ was.graphs c.link_at.ensures.graph);
    }
