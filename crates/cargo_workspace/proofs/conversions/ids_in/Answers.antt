use Rattle.std.proofs.Common.{◌≡◌, rules, String, Vec, map, string_bytes}
use Rattle.std.specs.Global.{Global}
use Rattle.cargo_files.specs.Listed.{AreIdsIn}
use Rattle.cargo_files.specs.Refused.{RefusesFile}
use Rattle.cargo_workspace.proofs.ReadingFacts.{made_asks, unmade_asks}
use Rattle.cargo_workspace.proofs.conversions.ids_in.Goals as goal

pub returns-in_err-bytes-clause-reads : goal.returns-in_err-bytes-clause-reads
returns-in_err-bytes-clause-reads g c =
    unmade_asks (λ (v : Vec (String Global) Global). map string_bytes v.items) AreIdsIn RefusesFile c.required-name.result _ c.required-name.ensures.value c.in_err-bytes.field-0.0 _ c.from_residual.ensures.1 c.in_err-bytes.ensures.reads

pub returns-clause-reads : goal.returns-clause-reads
returns-clause-reads g c =
    let lent : c.deref.result.now ≡ c.in_ok-bytes.bytes.items = search rules in
    made_asks (λ (v : Vec (String Global) Global). map string_bytes v.items) AreIdsIn RefusesFile c.required-name.result _ c.required-name.ensures.value _ _ _ _ c.in_ok-bytes.ensures.reads lent c.binary_ids.ensures.ids c.binary_ids.ensures.refused c.accepted.ensures.accepted
