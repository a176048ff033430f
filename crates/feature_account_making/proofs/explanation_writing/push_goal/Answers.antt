use Rattle.std.proofs.Common.{◌++◌, codes, string_bytes, ap, ◌∙◌, rules}
use Rattle.workspace_record.specs.Features.{FeatureValue}
use Rattle.feature_account_making.specs.ExplanationText.{json_text, label_text}
use Rattle.feature_account_making.proofs.TextFacts.{three_pushed}
use Rattle.feature_account_making.proofs.explanation_writing.push_goal.Goals as goal

pub returns : goal.returns
returns c =
    let old = string_bytes c.args.text.now in
    let between = string_bytes c.push_member.new.text in
    let package_key = codes "{\"package\":" in
    let feature_key = codes ",\"feature\":" in
    three_pushed old (package_key ++ json_text c.args.goal.now.package_id) (feature_key ++ json_text (label_text c.args.goal.now.label)) (codes "}") between (string_bytes c.push_member-2.new.text) (string_bytes c.push_str.new.self) (c.in_ok-push_member.ensures ∙ ap (λ t. old ++ (package_key ++ json_text t)) (search rules)) (c.in_ok-push_member-2.ensures ∙ ap (λ t. between ++ (feature_key ++ json_text t)) (c.as_str-2.ensures.value ∙ c.in_ok-label.ensures ∙ ap (λ (f : FeatureValue). label_text f.label) c.goal.view_is)) c.in_ok-push_str.ensures.bytes
