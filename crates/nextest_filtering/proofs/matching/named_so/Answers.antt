use Rattle.std.proofs.Common.{◌∙◌, ◌+◌, ◌++◌, ◌∷◌, [], ap, take, take_all, map, subst, if◌then◌else◌}
use Rattle.workspace_record.specs.Records.{Text}
use Rattle.nextest_filter_evaluation.specs.NameTests.{Suits, name_test}
use Rattle.nextest_filtering.specs.ContextViews.{ArePicked}
use Rattle.nextest_filtering.proofs.PickFacts.{one_more, picked_step}
use Rattle.nextest_filtering.proofs.matching.named_so.Goals as goal

pub loop-found-preserved : goal.loop-found-preserved
loop-found-preserved c =
    let i = c.loop-found.found-index in
    let xs = c.args.packages.now in
    let x : Text × Text = c.found-item.result in
    let b = c.in_ok-is_named.is_named in
    picked_step (λ p. Suits (name_test c.args.matcher.now) p.1) (take i xs) (take (i + 1) xs) x (map (λ y. y.now) c.loop-found.ids.items) _ b (rw (c.as_str.ensures.value ∙ ap (λ (p : Text × Text). p.1) c.found.view_is) at c.in_ok-is_named.ensures.matches) (one_more xs i _ x c.loop-found-test.true c.found-item.is) (c.in_ok-push_if.ensures ∙ ap (λ (p : Text × Text). map (λ y. y.now) c.loop-found.ids.items ++ (if b then p.0 ∷ [] else [])) c.found.view_is) c.loop-found.invariant

pub returns : goal.returns
returns c = subst (λ xs. ArePicked (λ p. Suits (name_test c.args.matcher.now) p.1) xs (map (λ y. y.now) c.loop-found.ids.items)) (take_all c.loop-found.found-index c.args.packages.now c.loop-found-test.false) c.loop-found.invariant
