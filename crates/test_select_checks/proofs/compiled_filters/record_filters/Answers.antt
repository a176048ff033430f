use Rattle.std.proofs.Common.{◌∙◌, ap, map}
use Rattle.std.proofs.lemmas.Result.{err_from_is_err_and}
use Rattle.workspace_record.specs.Records.{Workspace}
use Rattle.test_select_checks.specs.CompiledViews.{filters_view, group_view}
use Rattle.test_select_checks.specs.RecordFilters.{AreCompiledOf}
use Rattle.test_select_checks.specs.declared.filter_parts.RecordFilters.{RecordFilters}
use Rattle.test_select_checks.proofs.FilterFacts.{default_err, default_names_no_default, default_names_no_group}
use Rattle.test_select_checks.proofs.compiled_filters.record_filters.Goals as goal

pub returns-in_err-default_filter : goal.returns-in_err-default_filter
returns-in_err-default_filter c =
    let p = err_from_is_err_and c.from_residual-in_err-default_filter.result c.from_residual-in_err-default_filter.ensures.1 in
    record { filters = rw (p.1, p.2) (default_err c.args.cx.now {A = RecordFilters} (λ f. AreCompiledOf c.args.cx.now c.args.record.now (filters_view f)) c.args.record.now c.deref.result.now (map group_view c.in_ok-groups.groups.items) _ c.requires.names (c.deref.ensures.value ∙ ap (λ (w : Workspace). w.groups) c.record.view_is) c.in_ok-groups.ensures c.in_err-default_filter.ensures) }

pub invariant_of-result : goal.invariant_of-result
invariant_of-result c = record {
  no_default = default_names_no_default c.args.cx.now c.args.record.now.default_filter _ c.in_ok-default_filter.ensures;
  no_group = default_names_no_group c.args.cx.now c.args.record.now.default_filter _ c.in_ok-default_filter.ensures;
}
