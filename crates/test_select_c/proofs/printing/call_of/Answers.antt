use Rattle.std.proofs.Common.{ap, refl}
use Rattle.test_select_c.specs.PieceViews.{files_found, words_found}
use Rattle.test_select_c.proofs.printing.call_of.Goals as goal

pub returns-clause-found : goal.returns-clause-found
returns-clause-found c = (
  λ _. (
    (_, (c.in_ok-words.ensures _).1 (ap words_found c.in-Some.is)),
    (_, (c.in_ok-files.ensures _).1 (ap files_found c.in-Some-2.is)),
  ),
  λ _. refl,
)

pub returns-clause-parts : goal.returns-clause-parts
returns-clause-parts c = record {
  are_words = (c.in_ok-words.ensures _).1 (ap words_found c.in-Some.is);
  are_files = (c.in_ok-files.ensures _).1 (ap files_found c.in-Some-2.is);
}
