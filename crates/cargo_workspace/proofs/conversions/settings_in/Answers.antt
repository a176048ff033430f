use Rattle.std.proofs.Common.{◌≡◌, rules, Vec}
use Rattle.std.specs.Global.{Global}
use Rattle.cargo_files.specs.Printed.{AreSettings}
use Rattle.cargo_files.specs.Refused.{RefusesPlatform}
use Rattle.cargo_files.specs.Settings.{Setting}
use Rattle.cargo_workspace.proofs.ReadingFacts.{made_asks, unmade_asks}
use Rattle.cargo_workspace.proofs.conversions.settings_in.Goals as goal

pub returns-in_err-bytes-clause-reads : goal.returns-in_err-bytes-clause-reads
returns-in_err-bytes-clause-reads g c =
    unmade_asks (λ (v : Vec Setting Global). v.items) (λ printed settings. AreSettings printed 0 settings) RefusesPlatform c.required-name.result _ c.required-name.ensures.value c.in_err-bytes.field-0.0 _ c.from_residual.ensures.1 c.in_err-bytes.ensures.reads

pub returns-clause-reads : goal.returns-clause-reads
returns-clause-reads g c =
    let lent : c.deref.result.now ≡ c.in_ok-bytes.bytes.items = search rules in
    made_asks (λ (v : Vec Setting Global). v.items) (λ printed settings. AreSettings printed 0 settings) RefusesPlatform c.required-name.result _ c.required-name.ensures.value _ _ _ _ c.in_ok-bytes.ensures.reads lent c.settings_file.ensures.read c.settings_file.ensures.refused c.accepted.ensures.accepted
