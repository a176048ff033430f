use Rattle.std.proofs.Common.{◌∙◌, ap, not, option_map, Some}
use Rattle.test_select_tests.specs.PartitionView.{partition_view}
use Rattle.test_select.specs.Asking.{words_below}
use Rattle.test_select.proofs.AskingFacts.{a_part, given_below, no_part_read, no_word, part_read}
use Rattle.test_select.proofs.command_line.refuse_bad_partition.Goals.{in_default-get_str-via-in-Some-get_str+else-is_none, in_default-get_str-via-in_default-get_str}
use Rattle.test_select.proofs.command_line.refuse_bad_partition.Goals as goal

pub returns-in-Some-get_str-clause-refuses : goal.returns-in-Some-get_str-clause-refuses
returns-in-Some-get_str-clause-refuses c = (
  given_below c.args.matches.now c.in-Some.asked.now (Some c.in-Some-get_str.text) c.in-Some.ensures.rows c.in-Some-get_str.ensures,
  no_part_read partition_view c.in-Some-get_str.text.now c.from_text.result c.from_text.ensures.reads (c.is_none.ensures ∙ ap not c.if-is_none.true),
)

pub returns-in_default-get_str-clause-refuses : goal.returns-in_default-get_str-clause-refuses
returns-in_default-get_str-clause-refuses c =
    let given = given_below c.args.matches.now c.in-Some.asked.now c.get_str.result c.in-Some.ensures.rows c.get_str.ensures in
    elim c.in_default-get_str.branch [
      | in_default-get_str-via-in-Some-get_str+else-is_none w ↦
          a_part (words_below c.args.matches.now) w.in-Some-get_str.text.now (given ∙ ap (option_map (λ s. s.now)) w.in-Some-get_str.is)
          (part_read partition_view w.in-Some-get_str.text.now w.from_text.result w.from_text.ensures.reads (w.is_none.ensures ∙ ap not w.if-is_none.false))
      | in_default-get_str-via-in_default-get_str w ↦
          no_word (words_below c.args.matches.now) (given ∙ ap (option_map (λ s. s.now)) w.in_default-get_str.is)
    ]
