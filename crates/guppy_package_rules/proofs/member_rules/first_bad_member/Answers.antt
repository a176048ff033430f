use Rattle.std.proofs.Common.{Bool, position, map, not, ap, rules, tests, sym, ◌∙◌, Bor}
use Rattle.std.proofs.lemmas.Iterator.{YieldsList-from_slice}
use Rattle.std.proofs.lemmas.Iterator.Search.{position_from_yields_List}
use Rattle.std.specs.Str.{bytes_eq}
use Rattle.workspace_record.specs.Records.{Text}
use Rattle.guppy_package_rules.specs.Found.{finds}
use Rattle.guppy_package_rules.specs.Places.{first_repeat}
use Rattle.guppy_package_rules.specs.Rules.{earlier, is_package_id}
use Rattle.guppy_package_rules.proofs.Positions.{position-map}
use Rattle.guppy_package_rules.proofs.FoundFacts.{is_found}
use Rattle.guppy_package_rules.proofs.member_rules.first_bad_member.Goals as goal

pub returns : goal.returns
returns c =
    let unknown = λ (id : Text). not (is_package_id c.args.packages.now id) in
    let ids = c.deref.result.now in
    let found = is_found c.in_ok-known.known c.args.packages.now c.in_ok-known.ensures in
    let place = position_from_yields_List (λ (id : Bor Text). not (finds c.in_ok-known.known id.now)) _ _ _ c.position-unknown.ensures.ran (YieldsList-from_slice ids c.iter.ensures.rest) (λ x b q k. search (rules, tests)) in
    let first = place ∙ ap (λ (test : Bor Text → Bool). position test ids) (λ i id. not (found id.now i)) ∙ sym (position-map unknown (λ (t : Bor Text). t.now) ids) ∙ ap (position unknown) (ap (map (λ (t : Bor Text). t.now)) c.deref.ensures.value ∙ c.in_ok-ids.ensures) in
    let repeated = c.in_ok-first_repeated_text.ensures ∙ ap (first_repeat bytes_eq) (ap (map (λ (t : Bor Text). t.now)) c.deref-2.ensures.value ∙ c.in_ok-ids.ensures) in
    c.earlier.ensures ∙ λ i. earlier (first i) (repeated i)
