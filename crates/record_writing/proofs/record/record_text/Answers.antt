use Rattle.record_writing.proofs.Depths.{record_depth}
use Rattle.record_writing.proofs.RecordFacts.{record_read}
use Rattle.record_writing.proofs.WrittenFacts.{reads_as}
use Rattle.record_files.specs.Records.{record_file}
use Rattle.record_writing.specs.Rows.{record_data}
use Rattle.record_writing.proofs.record.record_text.Goals as goal

pub returns : goal.returns
returns c = record {
  reads = reads_as record_file (record_data c.args.record.now) _ _ c.to_string.result (record_read c.args.record.now) (record_depth c.args.record.now) c.in_ok-value.ensures c.to_string.ensures.reads_back;
}
