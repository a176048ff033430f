use Rattle.std.proofs.Common.{◌≡◌, ◌∙◌, ◌++◌, ◌∷◌, [], append-nil, ap, Bool, cond, filter, length, map, sym, Vec, Global}
use Rattle.std.proofs.lemmas.List.{map-append}
use Rattle.guppy_feature_demands.specs.Demands.{is_between_nodes, with_numbers}
use Rattle.guppy_feature_demands.specs.DemandViews.{demand_view, numbered_view}
use Rattle.guppy_feature_demands.proofs.KeptFacts.{kept_after}
use Rattle.guppy_feature_demands.specs.declared.demand.NumberedDemand.{NumberedDemand}
use Rattle.guppy_feature_demands.proofs.numbering.keep_demands.Goals.{then-is_between+in_ok-push, else-is_between}
use Rattle.guppy_feature_demands.proofs.numbering.keep_demands.Goals as goal

pub loop-demand-preserved : goal.loop-demand-preserved
loop-demand-preserved c =
    let before = c.loop-demand.invariant in
    let numbered = c.with_numbers-numbered in
    let n = numbered_view numbered.result in
    let was = map numbered_view c.loop-demand.kept.items in
    let by = λ (b : Bool). was ++ cond b (n ∷ []) [] in
    let pushed : map numbered_view c.if-is_between.kept.items ≡ was ++ filter (is_between_nodes (length c.args.nodes.now)) (n ∷ []) = elim c.if-is_between.branch [
      | then-is_between+in_ok-push w ↦ ap (λ (v : Vec NumberedDemand Global). map numbered_view v.items) w.kept-is ∙ ap (map numbered_view) w.in_ok-push.ensures.items ∙ map-append numbered_view c.loop-demand.kept.items (numbered.result ∷ []) ∙ ap by (sym w.if-is_between.true ∙ c.is_between.ensures)
      | else-is_between w ↦ ap (λ (v : Vec NumberedDemand Global). map numbered_view v.items) w.kept-is ∙ sym (append-nil was) ∙ ap by (sym w.if-is_between.false ∙ c.is_between.ensures)
    ] in
    record {
      kept = kept_after c.args.nodes.now _ demand_view c.args.demands.now c.loop-demand.demand-index c.demand-item.result c.loop-demand-test.true (map numbered_view c.args.kept.now.items) was (map numbered_view c.if-is_between.kept.items) n before.kept before.from (numbered.ensures.value ∙ ap (λ d. with_numbers c.loop-demand.from.nodes.now (demand_view d)) c.demand-item.is) pushed;
      from = numbered.ensures.from ∙ before.from;
      base = numbered.ensures.base ∙ before.base;
      to = numbered.ensures.to ∙ before.to;
    }
