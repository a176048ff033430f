use Rattle.std.proofs.Common.{◌≡◌, List, rules, string_bytes, subst}
use Rattle.clap.specs.Words.{found_of, rows_of}
use Rattle.cargo_files.specs.Settings.{Setting}
use Rattle.cargo_workspace.specs.Conversions.{MakesTableFor, ReadsSettings}
use Rattle.cargo_workspace.specs.Reading.{shown}
use Rattle.cargo_workspace.proofs.ConversionFacts.{table_as}
use Rattle.cargo_workspace.proofs.ReadingFacts.{asks_such, turn_fails, turn_goes}
use Rattle.cargo_workspace.proofs.conversions.table_made.Goals as goal

pub returns-in_err-settings-clause-makes : goal.returns-in_err-settings-clause-makes
returns-in_err-settings-clause-makes g c =
    let words = rows_of (found_of c.args.asked.now) in
    let triple = c.required-triple.result.now in
    table_as words triple (shown string_bytes c.from_residual.result) c.required-triple.ensures.value
    (turn_fails (ReadsSettings words) (MakesTableFor words triple) string_bytes c.in_err-settings.field-0.0 c.from_residual.result c.from_residual.ensures.1 c.in_err-settings.ensures.reads)

pub returns-clause-makes : goal.returns-clause-makes
returns-clause-makes g c =
    let words = rows_of (found_of c.args.asked.now) in
    let triple = c.required-triple.result.now in
    let lent : c.deref.result.now ≡ c.in_ok-settings.settings.items = search rules in
    let made = shown string_bytes c.table_for.result in
    table_as words triple made c.required-triple.ensures.value
    (turn_goes (ReadsSettings words) (MakesTableFor words triple) c.in_ok-settings.settings.items made c.in_ok-settings.ensures.same c.in_ok-settings.ensures.reads
    (asks_such c.table_for.ensures.makes (λ a h. subst (λ (s : List Setting). MakesTableFor words triple s made a) lent h)))
