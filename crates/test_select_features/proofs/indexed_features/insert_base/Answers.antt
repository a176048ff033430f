use Rattle.std.proofs.Common.{rules, ◌≡◌, ◌∙◌, ◌||◌, ap}
use Rattle.workspace_record.specs.Features.{feature_eq}
use Rattle.workspace_record.specs.TextSets.{has_text}
use Rattle.workspace_record.proofs.TextFacts.{text_inserted}
use Rattle.feature_account_rules.specs.RuleList.{base_of}
use Rattle.test_select_features.proofs.IndexedFacts.{bases_same}
use Rattle.test_select_features.proofs.indexed_features.insert_base.Goals as goal

pub returns-in_ok-insert-in-Base : goal.returns-in_ok-insert-in-Base
returns-in_ok-insert-in-Base c x =
    let id = c.as_str.result.now in
    let is : base_of id ≡ c.args.feature.now = search rules in
    text_inserted c.args.packages.now c.insert.new.self c.as_str.result c.in_ok-insert-in-Base.ensures.updates x
    ∙ ap (λ b. has_text c.args.packages.now x || b) (bases_same x id ∙ ap (feature_eq (base_of x)) is)
