use Rattle.std.proofs.Common.{refl}
use Rattle.workspace_record.specs.Tables.{answered}
use Rattle.record_files.specs.Tables.{Table, table_file}
use Rattle.record_writing.specs.Files.{ReadsAsTable}
use Rattle.record_writing.specs.Maps.{table_data}
use Rattle.record_writing.proofs.Depths.{table_depth}
use Rattle.record_writing.proofs.Entries.{by_name}
use Rattle.record_writing.proofs.MapFacts.{table_read}
use Rattle.record_writing.proofs.NameFacts.{answer_by_name, by_name_ascends}
use Rattle.record_writing.proofs.WrittenFacts.{reads_so}
use Rattle.record_writing.proofs.table.table_text.Goals as goal

pub returns : goal.returns
returns c =
    let given = c.args.table.now in
    let answers = answered given in
    let unknown_counts = given.unknown_counts in
    let table : Table = record { answers = by_name answers; unknown_counts = unknown_counts } in
    record {
      reads = reads_so table_file (table_data answers unknown_counts) _ table c.to_string_pretty.result (ReadsAsTable given) (table_read answers unknown_counts) (table_depth answers unknown_counts) c.in_ok-value.ensures.value c.to_string_pretty.ensures.reads_back
          (λ text reads. record {
            table = table;
            reads = reads;
            ascend = by_name_ascends answers;
            answers = answer_by_name given c.in_ok-value.ensures.unique;
            unknown_counts = refl;
          });
    }
