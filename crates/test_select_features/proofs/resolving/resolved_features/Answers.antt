use Rattle.feature_account_rules.specs.Closed.{IsOn}
use Rattle.feature_account_rules.specs.RuleList.{rule_list}
use Rattle.test_select_features.specs.Leading.{IsLedTo}
use Rattle.test_select_features.specs.Starts.{IsStart}
use Rattle.test_select_features.proofs.OnFacts.{each_on, led_iff_on}
use Rattle.test_select_features.proofs.resolving.resolved_features.Goals as goal

pub returns-clause-on : goal.returns-clause-on
returns-clause-on c =
    let w = c.args.record.now in
    let choice = c.args.choice.now in
    let table = c.args.table.now in
    let (g, rows, built, leads) = c.in_ok-features.ensures in
    each_on c.of.result c.in_ok-features.features.items (IsLedTo table g (IsStart g choice)) (IsOn (rule_list w choice table)) c.of.ensures.members leads (led_iff_on w c.requires.kept c.args.graph.now c.requires.graph g rows built c.edges_lead_to_what_is_on.ensures.seam choice c.requires.known table)
