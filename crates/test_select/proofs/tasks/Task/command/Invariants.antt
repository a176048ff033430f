use Rattle.std.proofs.Common.{◌≡◌, false, fold, take}
use Rattle.clap.specs.Words.{app_of, new_app}
use Rattle.clap.specs.declared.builder.Command.TheViews.{out-Command as fields_of}
use Rattle.test_select_files.specs.Apps.{word_rule}
use Rattle.test_select.specs.Tasks.{name_of, with_word}
use Rattle.test_select.proofs.tasks.Task.command.Given as goal

abbrev pub invariant-loop-word : goal.invariant-loop-word
invariant-loop-word l = record {
  app : app_of l.command ≡ fold (with_word (word_rule l.fn.format)) (new_app (name_of l.fn.self)) (take l.word-index l.word-items);
  local : (fields_of l.command).has_globals ≡ false;
}
