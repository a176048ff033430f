use Rattle.std.proofs.Common.{◌∙◌, codes, option_map}
use Rattle.clap.proofs.WalkLemmas.{first_value-rows}
use Rattle.clap.specs.Words.{found_of}
use Rattle.test_select_tests.specs.PartitionView.{partition_view}
use Rattle.test_select.proofs.AskingFacts.{none_asked, part_asked}
use Rattle.test_select.proofs.command_line.partition_in.Goals as goal

pub returns-in_err-get_str : goal.returns-in_err-get_str
returns-in_err-get_str c = record {
  part = none_asked partition_view c.get_str.result _ c.from_residual.result (c.get_str.ensures ∙ first_value-rows (found_of c.args.asked.now) (codes "partition")) c.in_err-get_str.was c.from_residual.ensures;
}

pub returns : goal.returns
returns c = record {
  part = part_asked c.get_str.result _ c.in_ok-get_str.field-0 (option_map partition_view c.from_text.result) (c.get_str.ensures ∙ first_value-rows (found_of c.args.asked.now) (codes "partition")) c.in_ok-get_str.was c.from_text.ensures.reads;
}
