use Rattle.std.proofs.Common.{◌≡◌, ◌∙◌, Bool, ap, get_or, if◌then◌else◌, nat_eq, sym}
use Rattle.indexmap.specs.IndexSet.{insert_key}
use Rattle.guppy_feature_nodes.specs.Lines.{declares_at}
use Rattle.guppy_feature_nodes.proofs.LinkOrder.{last_of_place, seen_next}
use Rattle.guppy_feature_nodes.proofs.edge_links.links_declaring.Goals.{then-declares_at+in_ok-push_new, else-declares_at}
use Rattle.guppy_feature_nodes.proofs.edge_links.links_declaring.Goals as goal

pub push_new-requires : goal.push_new-requires
push_new-requires c = last_of_place (declares_at c.args.links.now c.args.shown) c.args.places.now c.loop-place.place-index _ c.loop-place-test.true c.requires c.loop-place.numbers.items c.loop-place.invariant

pub loop-place-preserved : goal.loop-place-preserved
loop-place-preserved c =
    let old = c.loop-place.numbers.items in
    let declared = declares_at c.args.links.now c.args.shown in
    let place = get_or c.args.places.now c.loop-place.place-index (0, 0) in
    let by = λ (b : Bool). if b then insert_key nat_eq old place.0 else old in
    let pushed : c.if-declares_at.numbers.items ≡ by c.declares_at.result = elim c.if-declares_at.branch [
      | then-declares_at+in_ok-push_new w ↦ ap (λ v. v.items) w.numbers-is ∙ w.in_ok-push_new.ensures ∙ ap by (sym w.if-declares_at.true)
      | else-declares_at w ↦ ap (λ v. v.items) w.numbers-is ∙ ap by (sym w.if-declares_at.false)
    ] in
    seen_next declared c.args.places.now c.loop-place.place-index (0, 0) c.loop-place-test.true old c.if-declares_at.numbers.items c.loop-place.invariant (pushed ∙ ap by c.declares_at.ensures)
