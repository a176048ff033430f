use Rattle.std.proofs.Common.{◌∙◌}
use Rattle.clap.proofs.WalkLemmas.{first_value-rows}
use Rattle.clap.specs.Words.{found_of}
use Rattle.test_select_files.proofs.options.optional.Goals as goal

pub returns : goal.returns
returns c = record { value = c.get_str.ensures ∙ first_value-rows (found_of c.args.asked.now) c.args.name.now }
