use Rattle.std.proofs.Common.{◌≡◌, rules, string_bytes}
use Rattle.cargo_files.specs.Made.{IsTableFile}
use Rattle.cargo_files.specs.Refused.{RefusesTable}
use Rattle.cargo_workspace.proofs.ReadingFacts.{made_asks, unmade_asks}
use Rattle.cargo_workspace.proofs.conversions.table_for.Goals as goal

pub returns-in_err-bytes-clause-makes : goal.returns-in_err-bytes-clause-makes
returns-in_err-bytes-clause-makes g c =
    unmade_asks string_bytes (λ file text. IsTableFile file c.args.triple.now c.args.settings.now text) RefusesTable c.required-name.result _ c.required-name.ensures.value c.in_err-bytes.field-0.0 _ c.from_residual.ensures.1 c.in_err-bytes.ensures.reads

pub returns-clause-makes : goal.returns-clause-makes
returns-clause-makes g c =
    let lent : c.deref.result.now ≡ c.in_ok-bytes.bytes.items = search rules in
    made_asks string_bytes (λ file text. IsTableFile file c.args.triple.now c.args.settings.now text) RefusesTable c.required-name.result _ c.required-name.ensures.value _ _ _ _ c.in_ok-bytes.ensures.reads lent c.table_file.ensures.made c.table_file.ensures.refused c.accepted.ensures.accepted
