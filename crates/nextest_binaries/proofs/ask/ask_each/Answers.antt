use Rattle.std.proofs.lemmas.List.{map-append}
use Rattle.std.proofs.lemmas.Result.{err_from_is_err_and}
use Rattle.list_facts.specs.Texts.{texts}
use Rattle.nextest_binaries.proofs.Asking.{answered_more, asked_some, failed_at, faulty_at, id_within, id_at}
use Rattle.nextest_binaries.proofs.ask.ask_each.Goals as goal

pub returns-in_default : goal.returns-in_default
returns-in_default g c =
    let lt = c.loop-i-test.true in
    failed_at _ c.loop-i.i _ (id_within _ c.args.binaries.now c.loop-i.i lt) (id_at _ c.args.binaries.now c.loop-i.i _ lt) _ _ _ _ c.loop-i.invariant c.in_default.ensures

pub returns-in_err-fault : goal.returns-in_err-fault
returns-in_err-fault g c =
    let lt = c.loop-i-test.true in
    let p = err_from_is_err_and c.from_residual.result c.from_residual.ensures.1 in
    rw (p.1, p.2) (asked_some _ c.loop-i.i _ (id_within _ c.args.binaries.now c.loop-i.i lt) (id_at _ c.args.binaries.now c.loop-i.i _ lt) _ _ _ _ c.loop-i.invariant c.in-Ok.ensures.0)

pub returns-in-Some : goal.returns-in-Some
returns-in-Some g c =
    let lt = c.loop-i-test.true in
    let bad = rw (c.in-Some.is, c.deref.ensures.value) at c.in_ok-fault.ensures in
    faulty_at _ c.loop-i.i _ (id_within _ c.args.binaries.now c.loop-i.i lt) (id_at _ c.args.binaries.now c.loop-i.i _ lt) _ _ _ _ c.loop-i.invariant (texts c.in-Ok.listing.items) c.in-Some.fault c.in-Ok.ensures.0 c.in-Ok.ensures.1 c.in-Ok.ensures.2 bad

pub returns-in_err-push : goal.returns-in_err-push
returns-in_err-push g c =
    let lt = c.loop-i-test.true in
    let p = err_from_is_err_and c.from_residual-in_err-push.result c.from_residual-in_err-push.ensures.1 in
    rw (p.1, p.2) (asked_some _ c.loop-i.i _ (id_within _ c.args.binaries.now c.loop-i.i lt) (id_at _ c.args.binaries.now c.loop-i.i _ lt) _ _ _ _ c.loop-i.invariant c.in-Ok.ensures.0)

pub loop-i-preserved : goal.loop-i-preserved
loop-i-preserved g c =
    let lt = c.loop-i-test.true in
    let good = rw (c.in_default-2.is, c.deref.ensures.value) at c.in_ok-fault.ensures in
    rw (c.in_ok-push.ensures.items, map-append) (answered_more _ c.loop-i.i _ (id_within _ c.args.binaries.now c.loop-i.i lt) (id_at _ c.args.binaries.now c.loop-i.i _ lt) _ _ _ _ c.loop-i.invariant (texts c.in-Ok.listing.items) c.in-Ok.ensures.0 c.in-Ok.ensures.1 c.in-Ok.ensures.2 good)
