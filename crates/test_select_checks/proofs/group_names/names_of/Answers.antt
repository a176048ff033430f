use Rattle.std.proofs.Common.{◌∙◌, ◌↔◌, Contains, ap, map, string_bytes, subst, take_all}
use Rattle.std.specs.BTreeSet.{insert_key}
use Rattle.list_facts.specs.Ascending.{text_cmp}
use Rattle.list_facts.specs.Texts.{texts}
use Rattle.list_facts.proofs.Ascending.{map-insert_key}
use Rattle.workspace_record.specs.Records.{Text, Group}
use Rattle.nextest_filtering.proofs.PickFacts.{more_of, same_more}
use Rattle.test_select_checks.proofs.group_names.names_of.Goals as goal

pub loop-group-preserved : goal.loop-group-preserved
loop-group-preserved c =
    let g : Group = c.group-item.result in
    let called = c.in_ok-name.ensures.ok ∙ c.as_str.ensures.value ∙ ap (λ (x : Group). x.name) c.group.view_is in
    same_more (texts c.loop-group.names.keys) (texts c.insert.new.self.keys) _ _ g.name (ap texts c.in_ok-insert.ensures.keys ∙ map-insert_key string_bytes text_cmp c.loop-group.names.keys c.in_ok-name.name ∙ ap (insert_key text_cmp (texts c.loop-group.names.keys)) called) (more_of (λ (x : Group). x.name) c.args.groups.now c.loop-group.group-index g g c.loop-group-test.true c.group-item.is) c.loop-group.invariant

pub returns : goal.returns
returns c = subst (λ gs. (name : Text) → Contains (texts c.loop-group.names.keys) name ↔ Contains (map (λ (g : Group). g.name) gs) name) (take_all c.loop-group.group-index c.args.groups.now c.loop-group-test.false) c.loop-group.invariant
