use Rattle.test_select_feature_laws.proofs.line_verdict.LineVerdict.has_one_in_force.Goals as goal

pub returns : goal.returns
returns c = c.is_in_force.ensures _ c.status_for_kind.ensures.status
