use Rattle.std.proofs.Common.{map, string_bytes, subst}
use Rattle.std.proofs.lemmas.Result.{err_from_is_err_and}
use Rattle.serde_json.specs.View.{view}
use Rattle.cargo_files.specs.Added.{listing}
use Rattle.cargo_files.specs.Refused.{RefusesTests}
use Rattle.cargo_files.proofs.SuiteFacts.{named_at, refuses_one, suite_added, suites_at}
use Rattle.cargo_files.proofs.listings.listed_by_nextest.Goals as goal

pub loop-id-preserved : goal.loop-id-preserved
loop-id-preserved c =
    let made = suite_added (view c.args.list.now) c.args.built c.as_str-id.result.now _ _ _ c.in_ok-tests.ensures.tests c.in_ok-add_listing.ensures.added in
    suites_at (view c.args.list.now) c.args.ids.now c.args.built c.loop-id.id-index c.id-item.result c.loop-id-test.true c.id-item.is (map listing c.loop-id.listings.items) (map listing c.add_listing.new.listings.items) c.as_str-id.result.now c.as_str-id.ensures.value c.loop-id.invariant made.0 made.1

pub returns-in_err-add_listing-clause-refused : goal.returns-in_err-add_listing-clause-refused
returns-in_err-add_listing-clause-refused c =
    let p = err_from_is_err_and c.from_residual-in_err-add_listing.result c.from_residual-in_err-add_listing.ensures.1 in
    let among = named_at (view c.args.list.now) c.args.ids.now c.args.built c.loop-id.id-index c.id-item.result c.loop-id-test.true c.id-item.is c.as_str-id.result.now c.as_str-id.ensures.value in
    let refused = subst (λ tests. RefusesTests c.as_str-id.result.now tests c.args.built c.in_err-add_listing.field-0.0) c.in_ok-tests.ensures.tests c.in_err-add_listing.ensures.refused in
    rw (p.1, p.2) (refuses_one (view c.args.list.now) (map string_bytes c.args.ids.now) c.args.built c.as_str-id.result.now _ among refused)
