use Rattle.std.proofs.Common.{◌∙◌, ap}
use Rattle.workspace_record.specs.Records.{Workspace}
use Rattle.test_select_features.specs.Switching.{unknown_extra}
use Rattle.test_select_tests.proofs.ExplainingFacts.{explained_in}
use Rattle.test_select_tests.proofs.explaining.why.Goals as goal

pub why_in-requires : goal.why_in-requires
why_in-requires g c = record {
  known = ap (λ (w : Workspace). unknown_extra w c.args.choice.now) c.in_ok-checked.ensures.served.0 ∙ c.in_ok-checked.ensures.served.1.known;
}

pub returns : goal.returns
returns g c = record {
  explains = explained_in _ _ _ _ _ _ _ _ _ _ _ _ c.in_ok-checked.ensures.served.0 c.why_in.ensures;
}
