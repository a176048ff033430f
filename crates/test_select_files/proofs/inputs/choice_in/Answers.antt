use Rattle.std.proofs.Common.{◌≡◌, Some, rules}
use Rattle.workspace_record.specs.Choices.{Choice}
use Rattle.record_files.specs.Choices.{choice_file}
use Rattle.test_select_files.specs.Defaults.{default_choice}
use Rattle.test_select_files.proofs.ReadingFacts.{accepted_asks, named_asks}
use Rattle.test_select_files.proofs.inputs.choice_in.Goals as goal

pub returns-clause-reads : goal.returns-clause-reads
returns-clause-reads g c =
    let lent : c.deref.result.now ≡ c.in_ok-bytes.bytes.items = search rules in
    let named : c.args.name ≡ Some c.in-Some.name = search rules in
    named_asks (λ (v : Choice). v) choice_file (λ v. v ≡ default_choice) _ c.in-Some.name _ named
    (accepted_asks (λ (v : Choice). v) choice_file c.in-Some.name _ _ _ _ c.in_ok-bytes.ensures.reads lent c.read_choice.ensures.reads c.accepted.ensures.accepted)
