use Rattle.std.proofs.Common.{rules, ◌≡◌, ◌∙◌}
use Rattle.std.proofs.lemmas.Fn.{always_returns_same}
use Rattle.workspace_record.specs.Features.{FeatureValue, feature_cmp}
use Rattle.test_select_rules.proofs.Halving.{found_by_halving}
use Rattle.test_select_rules.proofs.search.finds.Goals as goal

pub returns : goal.returns
returns c =
    let wanted : FeatureValue = c.args.wanted.now in
    let found = c.binary_search_by-found in
    c.is_ok.ensures.value ∙ found_by_halving c.args.features.now wanted found.result c.requires found.ensures.bound (found.ensures.position (λ y. feature_cmp y wanted) (always_returns_same _ (λ a r. r ≡ feature_cmp a.0.now wanted) _ (λ x r f' k. search rules)))
