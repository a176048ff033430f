use Rattle.std.proofs.Common.{◌≡◌, Bool, map, ap, ◌∙◌, Bor}
use Rattle.std.specs.List.{list_all, list_any}
use Rattle.std.specs.Str.{bytes_eq}
use Rattle.list_facts.proofs.Quantifiers.{list_any-map}
use Rattle.workspace_record.specs.Records.{Text, FeatureEntry}
use Rattle.feature_account_rules.specs.RuleList.{has_feature}
use Rattle.guppy_package_rules.specs.Found.{finds}
use Rattle.test_select_rules.proofs.rules_on_features.has_required_features.Goals as goal

pub returns : goal.returns
returns c =
    let row = c.args.row.now in
    let names = c.in_ok-names.ensures ∙ ap (map (λ (f : FeatureEntry). f.name)) (c.deref.ensures.value ∙ ap (λ p. p.features) c.row.view_is) in
    let found : (text : Text) → finds c.in_ok-own.own text ≡ has_feature row text = λ text. c.in_ok-own.ensures text ∙ ap (list_any (bytes_eq text)) (ap (map (λ (t : Bor Text). t.now)) c.deref-2.ensures.value ∙ names) ∙ list_any-map (bytes_eq text) (λ f. f.name) row.features in
    c.require_only.ensures ∙ ap (λ (test : Text → Bool). list_all (λ t. list_all test t.required_features) c.deref-3.result.now) (λ i text. found text i) ∙ ap (list_all (λ t. list_all (has_feature row) t.required_features)) (c.deref-3.ensures.value ∙ ap (λ p. p.targets) c.row.view_is)
