use Rattle.std.proofs.Common.{◌≡◌, fold, take}
use Rattle.clap.specs.Words.{app_of}
use Rattle.clap.specs.declared.builder.Command.TheViews.{out-Command as fields_of}
use Rattle.test_select_files.specs.Apps.{with_word}
use Rattle.test_select_files.proofs.command_line.with_words.Given as goal

abbrev pub invariant-loop-word : goal.invariant-loop-word
invariant-loop-word l = record {
  app : app_of l.command ≡ fold with_word (app_of l.fn.command) (take l.word-index l.words);
  local : (fields_of l.command).has_globals ≡ (fields_of l.fn.command).has_globals;
}
