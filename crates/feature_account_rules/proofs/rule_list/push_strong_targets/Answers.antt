use Rattle.std.proofs.Common.{[], ◌∷◌, ◌++◌, ◌∙◌, Bor, List, ap, map}
use Rattle.std.proofs.lemmas.List.{map-append}
use Rattle.workspace_record.specs.Features.{FeatureValue}
use Rattle.workspace_record.specs.Records.{Line, Link, Text}
use Rattle.feature_account_rules.specs.RuleList.{named_of}
use Rattle.feature_account_rules.proofs.PushFacts.{parts_of_map, pushed_all, pushed_more}
use Rattle.feature_account_rules.proofs.rule_list.push_strong_targets.Goals as goal

-- the feature, once for each line
abbrev targets : Text → Text → List (Bor Line) → List FeatureValue
targets id name lines = map (λ _. named_of id name) (map (λ k. k.now) lines)

pub loop-line-preserved : goal.loop-line-preserved
loop-line-preserved c =
    let id = c.args.link.now.to in
    let name = c.args.entry.feature.now in
    let target = λ (_ : Line). named_of id name in
    let is = c.named.ensures.feature ∙ ap (λ (to : Text). named_of to name) (c.as_str.ensures.value ∙ ap (λ (l : Link). l.to) c.link.view_is) in
    pushed_more (targets id name) (parts_of_map (map target) (λ k. k.now) (map-append target)) _ _ _ _ c.deref-line-items.result.now c.loop-line._line-index c._line-item.result c.loop-line-test.true c._line-item.is c.loop-line.invariant c.in_ok-push.ensures.items (ap (λ f. f ∷ []) is)

pub returns : goal.returns
returns c =
    let target = λ (_ : Line). named_of c.args.link.now.to c.args.entry.feature.now in
    pushed_all (targets c.args.link.now.to c.args.entry.feature.now) _ _ c.deref-line-items.result.now c.loop-line._line-index c.loop-line-test.false c.loop-line.invariant ∙ ap (λ lines. c.args.features.now.items ++ map target lines) (ap (map (λ (k : Bor Line). k.now)) c.deref-line-items.ensures.value ∙ c.in_ok-lines.ensures)
