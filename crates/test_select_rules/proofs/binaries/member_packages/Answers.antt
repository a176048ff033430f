use Rattle.std.proofs.Common.{◌≡◌, Bool, List, map, filter, subst, ap, ◌∙◌, Bor, IfOk}
use Rattle.std.specs.List.{list_any}
use Rattle.std.specs.Str.{bytes_eq}
use Rattle.list_facts.proofs.Quantifiers.{list_any-map}
use Rattle.workspace_record.specs.Records.{Text, Package, Workspace}
use Rattle.feature_account_rules.specs.Lines.{is_member}
use Rattle.guppy_package_rules.specs.Found.{finds}
use Rattle.test_select_rules.proofs.binaries.member_packages.Goals as goal

pub returns : goal.returns
returns c =
    let w = c.args.«record».now in
    let found : (text : Text) → finds c.in_ok-members.members text ≡ is_member w text = λ text. c.in_ok-members.ensures text ∙ ap (list_any (bytes_eq text)) (ap (map (λ (t : Bor Text). t.now)) c.deref.ensures.value ∙ c.in_ok-ids.ensures ∙ ap (λ (v : Workspace). map (λ m. m.package_id) v.workspace.members) c.«record».view_is) ∙ list_any-map (bytes_eq text) (λ m. m.package_id) w.workspace.members in
    subst (λ (kept : List Package). IfOk c.packages_among.result (λ v. map (λ p. p.now) v.items ≡ kept)) (ap (λ (test : Package → Bool). filter test c.args.packages.now) (λ i p. found p.id i)) c.packages_among.ensures
