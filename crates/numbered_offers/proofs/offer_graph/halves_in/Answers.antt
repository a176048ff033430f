use Rattle.std.proofs.Common.{◌≡◌, ℕ, Vec, Global, true, false, filter, length, sym, ap, ◌∙◌, arith}
use Rattle.std.proofs.lemmas.List.{get_or_default}
use Rattle.numbered_graph.specs.Listings.{numbers_below}
use Rattle.numbered_graph.proofs.Numbers.{kept_more}
use Rattle.numbered_offers.specs.declared.edge.Edge.{Edge}
use Rattle.numbered_offers.specs.declared.offer.OfferKind.TheVariants.{Optional}
use Rattle.numbered_offers.specs.Edges.{has_offer}
use Rattle.numbered_offers.specs.Graphs.{has_optional_half}
use Rattle.numbered_offers.proofs.offer_graph.halves_in.Goals.{then-has_optional_half+in_ok-push, else-has_optional_half}
use Rattle.numbered_offers.proofs.offer_graph.halves_in.Goals as goal

pub loop-number-preserved : goal.loop-number-preserved
loop-number-preserved c =
    let kept = has_optional_half c.args.edges.now in
    let number = c.loop-number.number in
    let is = c.has_optional_half.ensures ∙ ap (λ (e : Edge). has_offer e.sort Optional) (get_or_default c.args.edges.now number _ _ c.loop-number-test.true) in
    elim c.if-has_optional_half.branch [
      | then-has_optional_half+in_ok-push w ↦ kept_more kept number _ _ true (ap (λ (v : Vec ℕ Global). v.items) w.halves-is ∙ w.in_ok-push.ensures.items) (sym w.if-has_optional_half.true ∙ is) c.loop-number.invariant
      | else-has_optional_half w ↦ kept_more kept number _ _ false (ap (λ (v : Vec ℕ Global). v.items) w.halves-is) (sym w.if-has_optional_half.false ∙ is) c.loop-number.invariant
    ]

pub returns : goal.returns
returns c =
    let end : c.loop-number.number ≡ length c.args.edges.now = omega arith in
    c.loop-number.invariant ∙ ap (λ n. filter (has_optional_half c.args.edges.now) (numbers_below n)) end
