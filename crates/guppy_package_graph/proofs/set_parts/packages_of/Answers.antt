use Rattle.std.proofs.Common.{◌≡◌, ◌+◌, ◌∙◌, All, subst, sym, take}
use Rattle.std.proofs.lemmas.List.{map-id}
use Rattle.std.proofs.lemmas.List.Elements.{All-push}
use Rattle.list_facts.proofs.Lists.{both_more}
use Rattle.guppy_package_graph.specs.Views.{graph_of, place_of}
use Rattle.guppy_package_graph.proofs.set_parts.packages_of.Goals as goal

pub loop-place-preserved : goal.loop-place-preserved
loop-place-preserved c =
    let was = c.loop-place.invariant in
    let more = c.in_ok-push.ensures.items in
    record {
      places = both_more place_of (λ v. v) c.loop-place.packages.items c.push.new.self.items c.metadata_at.result c.args.places.now c.loop-place.place-index 0 c.loop-place-test.true more c.metadata_at.ensures.place (was.places ∙ sym (map-id (take c.loop-place.place-index c.args.places.now))) ∙ map-id (take (c.loop-place.place-index + 1) c.args.places.now);
      graphs = subst (All (λ m. graph_of m ≡ c.args.graph.now)) (sym more) (All-push (λ m. graph_of m ≡ c.args.graph.now) _ _ was.graphs c.metadata_at.ensures.graph);
    }
