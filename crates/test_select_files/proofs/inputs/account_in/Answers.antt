use Rattle.std.proofs.Common.{◌≡◌, rules}
use Rattle.record_files.specs.Accounts.{AccountValue, account_file}
use Rattle.test_select_files.proofs.ReadingFacts.{accepted_asks}
use Rattle.test_select_files.proofs.inputs.account_in.Goals as goal

pub returns-clause-reads : goal.returns-clause-reads
returns-clause-reads g c =
    let lent : c.deref.result.now ≡ c.in_ok-bytes.bytes.items = search rules in
    accepted_asks (λ (v : AccountValue). v) account_file c.args.name _ _ _ _ c.in_ok-bytes.ensures.reads lent c.read_account.ensures.reads c.accepted.ensures.accepted
