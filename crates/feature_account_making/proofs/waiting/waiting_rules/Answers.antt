use Rattle.std.proofs.Common.{Some, sym, ap, ◌∙◌}
use Rattle.std.proofs.lemmas.Option.{slice_get-get_or}
use Rattle.feature_account_making.proofs.WaitingFacts.{rule_waits, waits_more, waits_all}
use Rattle.feature_account_making.proofs.waiting.waiting_rules.Goals as goal

pub loop-number-preserved : goal.loop-number-preserved
loop-number-preserved c =
    let rules = c.args.rules.now in
    let i = c.loop-number.number in
    let rule = c.index-rules-number.result in
    waits_more rules c.loop-number.waiting c.add_premises.new.waiting i rule c.loop-number.invariant (slice_get-get_or rules i rule c.loop-number-test.true ∙ ap Some (sym c.index-rules-number.is)) (rule_waits rule c.premises.result.now c.premises.ensures.premises c.loop-number.waiting c.add_premises.new.waiting i c.in_ok-add_premises.ensures)

pub returns : goal.returns
returns c = waits_all c.args.rules.now c.loop-number.waiting c.loop-number.number c.loop-number-test.false c.loop-number.auto.number-end c.loop-number.invariant
