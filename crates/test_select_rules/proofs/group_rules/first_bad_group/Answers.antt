use Rattle.std.proofs.Common.{Bor, ◌++◌, ◌∷◌, [], map, rules, take_all, tests, ap, sym, ◌∙◌}
use Rattle.std.proofs.lemmas.List.{map_more, map_push}
use Rattle.std.proofs.lemmas.Iterator.{YieldsList-from_slice}
use Rattle.std.proofs.lemmas.Iterator.Search.{position_from_yields_List}
use Rattle.std.specs.Str.{bytes_eq}
use Rattle.guppy_package_rules.specs.Places.{first_repeat}
use Rattle.guppy_package_rules.specs.Rules.{earlier}
use Rattle.test_select_rules.specs.RecordRules.{is_reserved}
use Rattle.workspace_record.specs.Records.{Group, Text}
use Rattle.test_select_rules.proofs.group_rules.first_bad_group.Goals as goal

pub loop-group-preserved : goal.loop-group-preserved
loop-group-preserved c =
    let so_far = c.loop-group.invariant in
    let is = c.as_str.ensures.value ∙ ap (λ (g : Group). g.name) (c.group.view_is ∙ c.group-item.is) in
    ap (map (λ (t : Bor Text). t.now)) c.in_ok-push.ensures.items ∙ map_push (λ (t : Bor Text). t.now) c.loop-group.names.items c.as_str.result ∙ (λ j. so_far j ++ is j ∷ []) ∙ sym (map_more (λ (g : Group). g.name) c.args.groups.now c.loop-group.group-index c.group-item.result c.loop-group-test.true)

pub returns : goal.returns
returns c =
    let reserved = position_from_yields_List (λ (g : Group). is_reserved g.name) _ _ _ c.position-reserved.ensures.ran (YieldsList-from_slice c.args.groups.now c.iter.ensures.rest) (λ x b q k. search (rules, tests)) in
    let names = c.loop-group.invariant ∙ ap (map (λ (g : Group). g.name)) (take_all c.loop-group.group-index c.args.groups.now c.loop-group-test.false) in
    let repeated = c.in_ok-repeated.ensures ∙ ap (first_repeat bytes_eq) (ap (map (λ (t : Bor Text). t.now)) c.deref.ensures.value ∙ names) in
    c.earlier.ensures ∙ (λ i. earlier (reserved i) (repeated i))
