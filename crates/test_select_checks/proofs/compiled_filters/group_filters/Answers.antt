use Rattle.std.proofs.Common.{refl, length, map}
use Rattle.std.proofs.lemmas.Result.{err_from_is_err_and}
use Rattle.std.proofs.lemmas.Option.{slice_get_read}
use Rattle.test_select_checks.specs.CompiledViews.{group_view}
use Rattle.test_select_checks.proofs.FilterFacts.{group_err, groups_more}
use Rattle.test_select_checks.proofs.compiled_filters.group_filters.Goals as goal

pub returns-in_err-group_filter : goal.returns-in_err-group_filter
returns-in_err-group_filter c =
    let p = err_from_is_err_and c.from_residual.result c.from_residual.ensures.1 in
    rw (p.1, p.2) (group_err c.args.cx.now c.args.groups.now (map group_view c.loop-place.filters.items) c.loop-place.place c.index-groups-place.result _ c.loop-place.invariant (slice_get_read c.args.groups.now (length c.args.groups.now) c.loop-place.place c.index-groups-place.result refl c.loop-place-test.true c.index-groups-place.is) c.in_err-group_filter.ensures)

pub loop-place-preserved : goal.loop-place-preserved
loop-place-preserved c =
    groups_more c.args.cx.now c.args.groups.now c.loop-place.place c.index-groups-place.result c.index-groups-place.result c.loop-place.filters.items c.push.new.self.items c.in_ok-group_filter.field-0 c.loop-place-test.true c.index-groups-place.is c.in_ok-push.ensures.items c.loop-place.invariant c.in_ok-group_filter.ensures
