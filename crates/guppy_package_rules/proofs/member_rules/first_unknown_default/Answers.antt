use Rattle.std.proofs.Common.{◌≡◌, Bool, position, not, map, ap, rules, tests, sym, ◌∙◌, Bor, String, Global, string_bytes}
use Rattle.std.proofs.lemmas.Iterator.{YieldsList-from_slice}
use Rattle.std.proofs.lemmas.Iterator.Search.{position_from_yields_List}
use Rattle.std.specs.List.{list_any}
use Rattle.std.specs.Str.{bytes_eq}
use Rattle.list_facts.proofs.Quantifiers.{list_any-map}
use Rattle.workspace_record.specs.Records.{Text}
use Rattle.guppy_package_rules.specs.Found.{finds}
use Rattle.guppy_package_rules.specs.Rules.{is_member_id}
use Rattle.guppy_package_rules.proofs.Positions.{position-map}
use Rattle.guppy_package_rules.proofs.member_rules.first_unknown_default.Goals as goal

pub returns : goal.returns
returns c =
    let w = c.args.workspace.now in
    let found : (text : Text) → finds c.in_ok-members.members text ≡ is_member_id w text = λ text. c.in_ok-members.ensures text ∙ ap (list_any (bytes_eq text)) (ap (map (λ (t : Bor Text). t.now)) c.deref.ensures.value ∙ c.in_ok-ids.ensures) ∙ list_any-map (bytes_eq text) (λ m. m.package_id) w.members in
    let place = position_from_yields_List (λ (id : String Global). not (finds c.in_ok-members.members (string_bytes id))) _ _ _ c.position-place.ensures.ran (YieldsList-from_slice c.deref-2.result.now c.iter.ensures.rest) (λ x b q k. search (rules, tests)) in
    place ∙ ap (λ (test : String Global → Bool). position test c.deref-2.result.now) (λ i id. not (found (string_bytes id) i)) ∙ sym (position-map (λ id. not (is_member_id w id)) string_bytes c.deref-2.result.now) ∙ ap (position (λ id. not (is_member_id w id))) (ap (map string_bytes) c.deref-2.ensures.value ∙ ap (λ v. v.default_members) c.workspace.view_is)
