use Rattle.std.proofs.Common.{[], ◌∷◌, ap, map}
use Rattle.std.proofs.lemmas.Result.{err_from_is_err_and}
use Rattle.test_select_rules.specs.BinaryView.{binary_view}
use Rattle.nextest_binaries.proofs.Asking.{asked_nothing}
use Rattle.test_select_rules.specs.Told.{Told}
use Rattle.test_select_tests.proofs.ListingFacts.{one_listing}
use Rattle.test_select_tests.proofs.explaining.listing_of.Goals as goal

pub returns-in_err-id : goal.returns-in_err-id
returns-in_err-id g c =
    let p = err_from_is_err_and c.from_residual.result c.from_residual.ensures.1 in
    rw (p.1, p.2) (asked_nothing _ _)

pub returns-in-Ok : goal.returns-in-Ok
returns-in-Ok g c =
    let id = (binary_view c.args.binary.now).id in
    one_listing _ _ id (map (λ b. b.id.now) (c.info.result ∷ [])) c.in-Ok.listings.items c.swap_remove.result (ap (λ (t : Told). t.id ∷ []) c.info.ensures.told) c.swap_remove.ensures.value c.in-Ok.ensures
