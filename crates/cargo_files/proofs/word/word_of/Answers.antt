use Rattle.std.proofs.lemmas.Str.Pattern.{split_once_first}
use Rattle.std.proofs.Common.{None, lit<}
use Rattle.cargo_files.specs.Words.{is_slash}
use Rattle.cargo_files.proofs.WordFacts.{passes_nowhere}
use Rattle.cargo_files.proofs.word.word_of.Goals as goal

pub returns-in-None : goal.returns-in-None
returns-in-None c =
    let text = c.args.text.now in
    rw (passes_nowhere is_slash text (split_once_first 47 text None c.in-None.ensures.cases (lit< tt)))
