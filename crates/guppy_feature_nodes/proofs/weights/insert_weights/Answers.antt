use Rattle.std.proofs.Common.{◌≡◌, ◌∙◌, ◌||◌, arith, false, nat_lt, true, map, ap}
use Rattle.std.proofs.lemmas.Bool.Decides.{nat_tests}
use Rattle.std.specs.List.{list_any}
use Rattle.guppy_feature_demands.proofs.FirstFacts.{inserted_seen}
use Rattle.guppy_feature_demands.specs.DemandViews.{numbered_view}
use Rattle.guppy_feature_nodes.specs.Joining.{Key, key_eq}
use Rattle.guppy_feature_nodes.specs.KeyViews.{key_view, keys_equivalence}
use Rattle.guppy_feature_nodes.specs.Weights.{is_weighty}
use Rattle.guppy_feature_nodes.proofs.WeightFacts.{any_after, any_stays, weights_more}
use Rattle.guppy_feature_nodes.proofs.weights.insert_weights.Goals.{then-weight-lt2+in_ok-insert, else-weight-lt2}
use Rattle.guppy_feature_nodes.proofs.weights.insert_weights.Goals as goal

pub loop-demand-preserved : goal.loop-demand-preserved
loop-demand-preserved c =
    let old = map key_view c.loop-demand.set.keys in
    let new = map key_view c.if-weight-lt2.set.keys in
    let weight = key_view c.weight-weight.result in
    let after : (key : Key) → is_weighty key ≡ true → list_any (key_eq key) new ≡ (list_any (key_eq key) old || key_eq key weight) = λ key weighty. elim c.if-weight-lt2.branch [
      | then-weight-lt2+in_ok-insert w ↦ ap (λ s. list_any (key_eq key) (map key_view s.keys)) w.set-is ∙ any_after key weight old _ (inserted_seen keys_equivalence key_view c.loop-demand.set.keys w.insert.new.self.keys _ w.in_ok-insert.ensures.keys)
      | else-weight-lt2 w ↦
          let light : nat_lt c.weight-weight.result.sort 2 ≡ false = grind (arith, nat_tests, w.if-weight-lt2.false) in
          ap (λ s. list_any (key_eq key) (map key_view s.keys)) w.set-is ∙ any_stays key weight old weighty light
    ] in
    weights_more numbered_view c.args.demands.now c.loop-demand.demand-index _ c.loop-demand-test.true old new c.loop-demand.invariant (λ key weighty. after key weighty ∙ ap (λ x. list_any (key_eq key) old || key_eq key x) c.weight-weight.ensures)
