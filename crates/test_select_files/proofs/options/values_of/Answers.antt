use Rattle.std.proofs.Common.{rules}
use Rattle.test_select_files.proofs.WordFacts.{values_given}
use Rattle.test_select_files.proofs.options.values_of.Goals as goal

pub returns : goal.returns
returns c = record { values = values_given c.args.asked.now c.args.name.now c.get_strs.result _ _ (λ d e. search rules) c.get_strs.ensures c.unwrap_or_default.ensures }
