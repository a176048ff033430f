use Rattle.std.proofs.Common.{◌∙◌, ap, map, subst}
use Rattle.workspace_record.specs.Records.{Workspace}
use Rattle.test_select_features.specs.Switching.{unknown_extra}
use Rattle.test_select_tests.specs.Plans.{Plans}
use Rattle.test_select_tests.proofs.plan.make_plan.Goals as goal

pub plan_in-requires : goal.plan_in-requires
plan_in-requires c = record {
  known = ap (λ (w : Workspace). unknown_extra w c.args.choice.now) c.in_ok-checked.ensures.served.0 ∙ c.in_ok-checked.ensures.served.1.known;
}

pub returns : goal.returns
returns c =
    subst (λ (w : Workspace). Plans (record { workspace = w; choice = c.args.choice.now; table = c.args.table.now; scope = c.args.scope; texts = map (λ t. t.now) c.args.texts.now; asks = c.args.asks }) c.plan_in.result) c.in_ok-checked.ensures.served.0 c.plan_in.ensures
