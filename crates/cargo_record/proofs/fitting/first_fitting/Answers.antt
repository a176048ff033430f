use Rattle.std.proofs.Common.{ap, ◌∙◌, sym}
use Rattle.cargo_metadata.specs.Resolved.{Entry}
use Rattle.cargo_record.proofs.FittingFacts.{fits_own}
use Rattle.cargo_record.proofs.fitting.first_fitting.Goals as goal

pub returns-then-fits-clause-some : goal.returns-then-fits-clause-some
returns-then-fits-clause-some c =
    fits_own c.args.index.now c.args.dependency.now c.args.entries.now c.loop-entry.entry-index c.entry-item.result c.as_str.result.now c.loop-entry-test.true c.entry-item.is (c.as_str.ensures.value ∙ ap (λ (e : Entry). e.package_id) c.entry.view_is) (sym c.fits.ensures ∙ c.if-fits.true)
