use Rattle.std.proofs.Common.{◌≡◌, ◌∙◌, String, Global, None, Some, ap, find, map, not, string_bytes, subst, sym}
use Rattle.workspace_record.specs.Records.{Text}
use Rattle.feature_account.specs.Accounts.{concluded_set}
use Rattle.feature_account_rules.specs.RuleList.{named_of}
use Rattle.test_select_rules.specs.BinaryView.{binary_view}
use Rattle.test_select_tests.proofs.FoundFacts.{none_off, off_found}
use Rattle.test_select_tests.proofs.finding.first_off.Goals as goal

pub returns-in_err-name : goal.returns-in_err-name
returns-in_err-name c =
    let on = c.args.on.now in
    let b = binary_view c.args.binary.now in
    let id : c.as_str.result.now ≡ b.owner.id = c.as_str.ensures.value ∙ ap (λ r. r.id) c.row.view_is in
    let names = c.deref.result.now in
    let same : b.target.required_features ≡ map string_bytes names = sym (ap (λ t. t.required_features) c.target.view_is) ∙ ap (map string_bytes) (sym c.deref.ensures.value) in
    let is : find (λ (name : String Global). not (concluded_set on (named_of b.owner.id (string_bytes name)))) names ≡ None = subst (λ (i : Text). find (λ (name : String Global). not (concluded_set on (named_of i (string_bytes name)))) names ≡ None) id (sym c.in_err-name.ensures) in
    rw c.from_residual.ensures (none_off on b names same is)

pub returns : goal.returns
returns c =
    let on = c.args.on.now in
    let b = binary_view c.args.binary.now in
    let id : c.as_str.result.now ≡ b.owner.id = c.as_str.ensures.value ∙ ap (λ r. r.id) c.row.view_is in
    let names = c.deref.result.now in
    let same : b.target.required_features ≡ map string_bytes names = sym (ap (λ t. t.required_features) c.target.view_is) ∙ ap (map string_bytes) (sym c.deref.ensures.value) in
    let name = c.in_ok-name.name.now in
    let is : find (λ (name : String Global). not (concluded_set on (named_of b.owner.id (string_bytes name)))) names ≡ Some name = subst (λ (i : Text). find (λ (name : String Global). not (concluded_set on (named_of i (string_bytes name)))) names ≡ Some name) id (sym c.in_ok-name.ensures) in
    rw c.as_str-2.ensures.value (off_found on b names same name is)
