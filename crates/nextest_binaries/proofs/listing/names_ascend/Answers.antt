use Rattle.std.proofs.Common.{◌≡◌, ◌+◌, ◌-◌, arith, get_or, is_ge, refl, subst, sym, true, true≢false, ◌∙◌}
use Rattle.std.specs.String.{string_cmp}
use Rattle.nextest_binaries.proofs.Repeats.{ascending_names, descending_names}
use Rattle.nextest_binaries.proofs.listing.names_ascend.Goals as goal

pub returns-then-ge : goal.returns-then-ge
returns-then-ge c =
    let place = c.loop-place.place in
    let names = c.args.names.now in
    let before = c.index-names-place.result in
    let after = c.index-names-place-in-loop-place.result in
    let next : place ≡ place - 1 + 1 = omega (arith, c.loop-place.auto.place) in
    let falls : is_ge (string_cmp (get_or names (place - 1) before) (get_or names (place - 1 + 1) after)) ≡ true =
    subst (λ n. is_ge (string_cmp (get_or names (place - 1) before) (get_or names n after)) ≡ true) next (rw (← c.index-names-place.is, ← c.index-names-place-in-loop-place.is) (sym c.ge.ensures ∙ c.if-ge.true)) in
    record { ascending = (λ no. absurd (true≢false (sym no)), λ ascending. absurd (descending_names names (place - 1) before after (omega (arith, c.loop-place-test.true, c.loop-place.auto.place)) falls ascending)) }

pub returns : goal.returns
returns c = record {
  ascending = (λ _. ascending_names c.args.names.now (λ k d lt. c.loop-place.invariant k d (omega (arith, c.loop-place-test.false, lt))), λ _. refl);
}
