use Rattle.std.proofs.Common.{◌≡◌, fold, take}
use Rattle.clap.specs.Words.{app_of}
use Rattle.clap.specs.declared.builder.Command.TheViews.{out-Command as fields_of}
use Rattle.test_select_files.specs.Apps.{with_sub}
use Rattle.test_select_files.proofs.command_line.with_subcommands.Given as goal

abbrev pub invariant-loop-subcommand : goal.invariant-loop-subcommand
invariant-loop-subcommand l = record {
  app : app_of l.command ≡ fold with_sub (app_of l.fn.command) (take l.subcommand-index l.subcommands);
  local : (fields_of l.command).has_globals ≡ (fields_of l.fn.command).has_globals;
}
