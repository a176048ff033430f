use Rattle.std.proofs.Common.{◌≡◌, [], get_or}
use Rattle.std.proofs.lemmas.List.{get_or_read}
use Rattle.list_facts.specs.Texts.{texts}
use Rattle.feature_account.specs.Accounts.{concluded_set}
use Rattle.feature_account_rules.specs.RuleList.{base_of}
use Rattle.test_select_features.proofs.OrderFacts.{kept_more}
use Rattle.test_select_features.proofs.dependency_orders.ids_on.Goals as goal

pub loop-place-preserved : goal.loop-place-preserved
loop-place-preserved c =
    let ids = c.args.ids.now in
    let place = c.loop-place.place-index in
    let within = c.requires place 0 c.loop-place-test.true in
    let at : c.index-ids-place.result ≡ get_or ids (get_or c.args.places.now place 0) [] = get_or_read ids (get_or c.args.places.now place 0) c.index-ids-place.result within c.index-ids-place.is [] in
    kept_more (λ id. concluded_set c.args.features.now (base_of id)) (λ p. get_or ids p []) (texts c.loop-place.on.items) (texts c.push_if_on.new.ids.items) c.index-ids-place.result c.args.places.now place 0 c.loop-place-test.true at c.in_ok-push_if_on.ensures c.loop-place.invariant
