use Rattle.record_files.specs.Choices.{choice_file}
use Rattle.record_writing.specs.Choices.{choice_data}
use Rattle.record_writing.proofs.ChoiceFacts.{choice_read}
use Rattle.record_writing.proofs.Depths.{choice_depth}
use Rattle.record_writing.proofs.WrittenFacts.{reads_as}
use Rattle.record_writing.proofs.choice.choice_text.Goals as goal

pub returns : goal.returns
returns c = record {
  reads = reads_as choice_file (choice_data c.args.choice.now) _ _ c.to_string.result (choice_read c.args.choice.now) (choice_depth c.args.choice.now) c.in_ok-value.ensures c.to_string.ensures.reads_back;
}
