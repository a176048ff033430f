use Rattle.std.proofs.Common.{◌∙◌, ap, sym}
use Rattle.test_select_feature_laws.specs.Verdicts.{table_of}
use Rattle.test_select_feature_laws.proofs.InForce.{status_verdict, verdict_of}
use Rattle.test_select_feature_laws.proofs.line_verdict.LineVerdict.is_in_force.Goals as goal

pub returns-in-Enabled : goal.returns-in-Enabled
returns-in-Enabled c specs h =
    let table = table_of c.args.self.now in
    ap (verdict_of table.unknown_counts) (sym c.in-Enabled.is) ∙ status_verdict table _ specs _ c.enabled_on.result c.args.self.now.asked h c.enabled_on.ensures

pub returns-in-Unknown : goal.returns-in-Unknown
returns-in-Unknown c specs h =
    let table = table_of c.args.self.now in
    ap (verdict_of table.unknown_counts) (sym c.in-Unknown.is) ∙ status_verdict table _ specs _ c.enabled_on.result c.args.self.now.asked h c.enabled_on.ensures

pub returns-in-Disabled : goal.returns-in-Disabled
returns-in-Disabled c specs h =
    let table = table_of c.args.self.now in
    ap (verdict_of table.unknown_counts) (sym c.in-Disabled.is) ∙ status_verdict table _ specs _ c.enabled_on.result c.args.self.now.asked h c.enabled_on.ensures
