use Rattle.std.proofs.Common.{◌∙◌, ap, sym, length, Some, string_bytes}
use Rattle.std.specs.Option.{option_map}
use Rattle.workspace_record.specs.Records.{Workspace}
use Rattle.test_select_checks.proofs.FilterFacts.{default_error}
use Rattle.test_select_checks.proofs.compiled_filters.default_filter.Goals as goal

pub returns-in-Err : goal.returns-in-Err
returns-in-Err c =
    let w : Workspace = c.args.record.now in
    default_error c.args.cx.now w _ c.len.result c.in-Err.refused c.refused_at.result (sym (ap (λ (v : Workspace). v.default_filter) c.record.view_is) ∙ ap (option_map string_bytes) c.in-Some.is ∙ ap Some (sym c.as_str.ensures.value)) (c.len.ensures ∙ c.record.inside.groups.ok.0 ∙ ap (λ (v : Workspace). length v.groups) c.record.view_is) c.refused_at.ensures c.in-Err.ensures.refused
