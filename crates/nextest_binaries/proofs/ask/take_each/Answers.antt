use Rattle.std.proofs.Common.{◌≡◌, ◌∙◌, [], arith, None, Some, get_or, rules, refl, string_bytes, sym}
use Rattle.std.proofs.lemmas.List.{length-map, map-append}
use Rattle.std.proofs.lemmas.Map.Text.{btree_map_updates_text}
use Rattle.std.specs.BTreeMap.{get_by_text}
use Rattle.list_facts.specs.Texts.{texts}
use Rattle.nextest_binaries.proofs.Asking.{id_within, id_at}
use Rattle.nextest_binaries.proofs.Taking.{fails_at, finds_fault, stops_after, stops_taking, taken_more, taken_none, takes_all}
use Rattle.nextest_binaries.proofs.ask.take_each.Goals as goal

pub returns-in_err-taken : goal.returns-in_err-taken
returns-in_err-taken c = stops_taking _ _ _ _ c.from_residual.ensures.1 (λ cs apart. refl) (λ cs listing h. h)

pub loop-place-init : goal.loop-place-init
loop-place-init c = rw c.in_ok-taken.ensures.items (taken_none _ _)

pub returns-in_default : goal.returns-in_default
returns-in_default c =
    let lt = c.loop-place-test.true in
    let at : get_or (texts c.args.ids.now) c.loop-place.place [] ≡ c.as_str.result.now = id_at string_bytes c.args.ids.now c.loop-place.place c.index-ids-place.result lt ∙ search rules in
    let none : get_by_text c.loop-place.listings c.as_str.result.now ≡ None = sym c.remove.ensures.value ∙ c.in_default.is in
    fails_at _ _ _ c.loop-place.place _ (id_within string_bytes c.args.ids.now c.loop-place.place lt) at _ c.loop-place.invariant _ none (btree_map_updates_text c.as_str.result.now c.loop-place.listings c.remove.new.self None c.remove.ensures.updates)

pub returns-in_err-fault : goal.returns-in_err-fault
returns-in_err-fault c =
    let lt = c.loop-place-test.true in
    let at : get_or (texts c.args.ids.now) c.loop-place.place [] ≡ c.as_str.result.now = id_at string_bytes c.args.ids.now c.loop-place.place c.index-ids-place.result lt ∙ search rules in
    stops_after _ _ _ c.loop-place.place _ (id_within string_bytes c.args.ids.now c.loop-place.place lt) at _ c.loop-place.invariant _ (btree_map_updates_text c.as_str.result.now c.loop-place.listings c.remove.new.self None c.remove.ensures.updates) _ c.from_residual-in_err-fault.ensures.1

pub returns-in-Some-2 : goal.returns-in-Some-2
returns-in-Some-2 c =
    let lt = c.loop-place-test.true in
    let at : get_or (texts c.args.ids.now) c.loop-place.place [] ≡ c.as_str.result.now = id_at string_bytes c.args.ids.now c.loop-place.place c.index-ids-place.result lt ∙ search rules in
    let there : get_by_text c.loop-place.listings c.as_str.result.now ≡ Some c.in-Some.listing = sym c.remove.ensures.value ∙ c.in-Some.is in
    let bad = rw (c.in-Some-2.is, c.deref.ensures.value) at c.in_ok-fault.ensures in
    finds_fault _ _ _ c.loop-place.place _ (id_within string_bytes c.args.ids.now c.loop-place.place lt) at _ c.loop-place.invariant c.in-Some.listing c.in-Some-2.fault _ there (btree_map_updates_text c.as_str.result.now c.loop-place.listings c.remove.new.self None c.remove.ensures.updates) bad

pub returns-in_err-push : goal.returns-in_err-push
returns-in_err-push c =
    let lt = c.loop-place-test.true in
    let at : get_or (texts c.args.ids.now) c.loop-place.place [] ≡ c.as_str.result.now = id_at string_bytes c.args.ids.now c.loop-place.place c.index-ids-place.result lt ∙ search rules in
    stops_after _ _ _ c.loop-place.place _ (id_within string_bytes c.args.ids.now c.loop-place.place lt) at _ c.loop-place.invariant _ (btree_map_updates_text c.as_str.result.now c.loop-place.listings c.remove.new.self None c.remove.ensures.updates) _ c.from_residual-in_err-push.ensures.1

pub loop-place-preserved : goal.loop-place-preserved
loop-place-preserved c =
    let lt = c.loop-place-test.true in
    let at : get_or (texts c.args.ids.now) c.loop-place.place [] ≡ c.as_str.result.now = id_at string_bytes c.args.ids.now c.loop-place.place c.index-ids-place.result lt ∙ search rules in
    let there : get_by_text c.loop-place.listings c.as_str.result.now ≡ Some c.in-Some.listing = sym c.remove.ensures.value ∙ c.in-Some.is in
    let good = rw (c.in_default-2.is, c.deref.ensures.value) at c.in_ok-fault.ensures in
    rw (c.in_ok-push.ensures.items, map-append) (taken_more _ _ _ c.loop-place.place _ (id_within string_bytes c.args.ids.now c.loop-place.place lt) at _ c.loop-place.invariant c.in-Some.listing _ there (btree_map_updates_text c.as_str.result.now c.loop-place.listings c.remove.new.self None c.remove.ensures.updates) good)

pub returns : goal.returns
returns c = takes_all _ _ _ c.loop-place.place _ (omega (arith, length-map c.args.ids.now string_bytes, c.loop-place-test.false)) c.loop-place.invariant
