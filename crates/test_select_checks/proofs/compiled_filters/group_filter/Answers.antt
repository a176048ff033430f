use Rattle.std.proofs.Common.{◌∙◌, ap}
use Rattle.workspace_record.specs.Records.{Group}
use Rattle.test_select_checks.proofs.FilterFacts.{group_error}
use Rattle.test_select_checks.proofs.compiled_filters.group_filter.Goals as goal

pub returns-in-Err : goal.returns-in-Err
returns-in-Err c =
    group_error c.args.cx.now c.args.place c.args.group.now _ c.in-Err.refused c.refused_at.result (c.as_str-2.ensures.value ∙ ap (λ (g : Group). g.filter) c.group.view_is) c.refused_at.ensures c.in-Err.ensures.refused
