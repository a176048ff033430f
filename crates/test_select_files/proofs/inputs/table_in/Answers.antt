use Rattle.std.proofs.Common.{◌≡◌, Some, rules}
use Rattle.record_files.specs.Tables.{table_file, table_view}
use Rattle.test_select_files.specs.Defaults.{KnowsNothing}
use Rattle.test_select_files.proofs.ReadingFacts.{accepted_asks, named_asks}
use Rattle.test_select_files.proofs.inputs.table_in.Goals as goal

pub returns-clause-reads : goal.returns-clause-reads
returns-clause-reads g c =
    let lent : c.deref.result.now ≡ c.in_ok-bytes.bytes.items = search rules in
    let named : c.args.name ≡ Some c.in-Some.name = search rules in
    named_asks table_view table_file KnowsNothing _ c.in-Some.name _ named
    (accepted_asks table_view table_file c.in-Some.name _ _ _ _ c.in_ok-bytes.ensures.reads lent c.read_table.ensures.reads c.accepted.ensures.accepted)
