use Rattle.std.proofs.Common.{◌≡◌, rules, string_bytes}
use Rattle.cargo_files.specs.Made.{IsRecordFile}
use Rattle.cargo_files.specs.Refused.{RefusesMetadata}
use Rattle.cargo_workspace.proofs.ReadingFacts.{asks_such, made_asks, unmade_asks}
use Rattle.cargo_workspace.proofs.conversions.record_made.Goals as goal

pub returns-in_err-bytes-clause-makes : goal.returns-in_err-bytes-clause-makes
returns-in_err-bytes-clause-makes g c =
    let wanted = c.requested_members-wanted.result in
    asks_such (unmade_asks string_bytes (λ printed text. IsRecordFile printed wanted text) (λ printed why. RefusesMetadata printed wanted why) c.required-name.result _ c.required-name.ensures.value c.in_err-bytes.field-0.0 _ c.from_residual.ensures.1 c.in_err-bytes.ensures.reads) (λ a h. (wanted, c.requested_members-wanted.ensures.asks, h))

pub returns-clause-makes : goal.returns-clause-makes
returns-clause-makes g c =
    let wanted = c.requested_members-wanted.result in
    let lent : c.deref.result.now ≡ c.in_ok-bytes.bytes.items = search rules in
    asks_such (made_asks string_bytes (λ printed text. IsRecordFile printed wanted text) (λ printed why. RefusesMetadata printed wanted why) c.required-name.result _ c.required-name.ensures.value _ _ _ _ c.in_ok-bytes.ensures.reads lent c.record_file.ensures.made c.record_file.ensures.refused c.accepted.ensures.accepted) (λ a h. (wanted, c.requested_members-wanted.ensures.asks, h))
