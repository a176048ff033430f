use Rattle.test_select_files.proofs.WordFacts.{names_are}
use Rattle.test_select_files.proofs.options.named_files.Goals as goal

pub returns : goal.returns
returns c = record { named = names_are c.required.ensures.value c.optional.ensures.value c.optional-2.ensures.value }
