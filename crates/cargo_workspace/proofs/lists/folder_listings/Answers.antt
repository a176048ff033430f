use Rattle.std.proofs.Common.{◌≡◌, ◌∙◌, [], String, Vec, ap, map, refl, rules, string_bytes}
use Rattle.std.specs.Global.{Global}
use Rattle.cargo_files.specs.Added.{listing}
use Rattle.test_select_files.proofs.ReadingFacts.{SameAnswers-refl, SameAnswers-trans}
use Rattle.cargo_workspace.proofs.ListFacts.{lists_done, lists_fail, more_lists}
use Rattle.cargo_workspace.proofs.ReadingFacts.{asks_none}
use Rattle.cargo_workspace.proofs.lists.folder_listings.Goals as goal

pub loop-id-init : goal.loop-id-init
loop-id-init g c =
    let empty : c.new-listings.result.items ≡ [] = search rules in
    record { adds = asks_none (ap (map listing) empty, refl); same = SameAnswers-refl _ }

pub loop-id-preserved : goal.loop-id-preserved
loop-id-preserved g c =
    let was = c.loop-id.invariant in
    record {
      adds = more_lists c.args.folder.now c.args.built c.args.ids.now c.loop-id.id-index c.id-item.result c.loop-id-test.true c.as_str.result.now (c.as_str.ensures.value ∙ ap string_bytes c.id-item.is) _ _ _ was.same was.adds c.in_ok-add_list.ensures.adds;
      same = SameAnswers-trans was.same c.in_ok-add_list.ensures.same;
    }

pub returns-in_err-add_list-clause-adds : goal.returns-in_err-add_list-clause-adds
returns-in_err-add_list-clause-adds g c =
    let was = c.loop-id.invariant in
    lists_fail c.args.folder.now c.args.built c.args.ids.now c.loop-id.id-index c.id-item.result c.loop-id-test.true c.as_str.result.now (c.as_str.ensures.value ∙ ap string_bytes c.id-item.is) _ _ (λ (v : Vec (String Global × Vec (String Global) Global) Global). map listing v.items) c.in_err-add_list.field-0.0 c.from_residual.result c.from_residual.ensures.1 was.same was.adds c.in_err-add_list.ensures.adds

pub returns-in_err-add_list-clause-same : goal.returns-in_err-add_list-clause-same
returns-in_err-add_list-clause-same g c = SameAnswers-trans c.loop-id.invariant.same c.in_err-add_list.ensures.same

pub returns-clause-adds : goal.returns-clause-adds
returns-clause-adds g c = lists_done c.args.folder.now c.args.built c.args.ids.now c.loop-id.id-index _ _ c.loop-id-test.false c.loop-id.invariant.adds
