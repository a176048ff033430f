use Rattle.std.proofs.Common.{◌≡◌, [], ◌∷◌, ◌++◌, arith, map, take, take_all, subst, IfOk, sym, ap, ◌∙◌, Bor, unwrap_or}
use Rattle.std.proofs.lemmas.Grind.{common_steps}
use Rattle.std.proofs.lemmas.List.{map-append}
use Rattle.list_facts.proofs.Lists.{map-take_more}
use Rattle.workspace_record.specs.Records.{Text}
use Rattle.std.specs.Str.{bytes_eq}
use Rattle.guppy_package_rules.specs.Found.{text_at}
use Rattle.guppy_package_rules.specs.Places.{first_repeat}
use Rattle.guppy_package_rules.specs.Rules.{member_name}
use Rattle.guppy_package_rules.proofs.FoundFacts.{name_found}
use Rattle.guppy_package_rules.proofs.member_rules.first_repeated_name.Goals as goal

pub loop-member-preserved : goal.loop-member-preserved
loop-member-preserved c =
    let packages = c.args.packages.now in
    let members = c.args.members.now in
    let i = c.loop-member.member-index in
    let name : c.unwrap_or.result.now ≡ unwrap_or (text_at c.in_ok-names_by_id.names_by_id c.member-item.result.package_id) [] = grind (arith, common_steps) in
    let called = name ∙ name_found c.in_ok-names_by_id.names_by_id packages c.member-item.result c.in_ok-names_by_id.ensures ∙ ap (member_name packages) c.member-item.is in
    ap (map (λ (t : Bor Text). t.now)) c.in_ok-push.ensures.items ∙ map-append (λ (t : Bor Text). t.now) c.loop-member.names.items (c.unwrap_or.result ∷ []) ∙ ap (λ ts. ts ++ c.unwrap_or.result.now ∷ []) c.loop-member.invariant ∙ ap (λ t. map (member_name packages) (take i members) ++ t ∷ []) called ∙ sym (map-take_more (member_name packages) members i c.member-item.result c.loop-member-test.true)

pub returns : goal.returns
returns c =
    let names = ap (map (λ (t : Bor Text). t.now)) c.deref.ensures.value ∙ c.loop-member.invariant ∙ ap (map (member_name c.args.packages.now)) (take_all c.loop-member.member-index c.args.members.now c.loop-member-test.false) in
    subst (λ ts. IfOk c.first_repeated_text.result (λ place. place ≡ first_repeat bytes_eq ts)) names c.first_repeated_text.ensures
