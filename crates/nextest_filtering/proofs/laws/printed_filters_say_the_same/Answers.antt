use Rattle.std.proofs.Common.{◌∙◌, ap, sym}
use Rattle.nextest_filter_syntax.specs.Trees.{tree_of}
use Rattle.nextest_filter_syntax.specs.TreeTexts.{tree_text}
use Rattle.nextest_filter_syntax.proofs.GrammarFacts.{texts_read_as_one}
use Rattle.nextest_filter_laws.specs.Laws.{bare}
use Rattle.nextest_filter_laws.proofs.TreeBack.{printed_filters_read_back}
use Rattle.nextest_filtering.proofs.AlikeFacts.{alike_say_the_same}
use Rattle.nextest_filtering.proofs.BareFacts.{bare_alike}
use Rattle.nextest_filtering.proofs.laws.printed_filters_say_the_same.Goals as goal

pub returns : goal.returns
returns c = record {
  same = λ x y printable reads of_x of_y.
      let (t, read, but_spans) = printed_filters_read_back x printable in
      alike_say_the_same _ _ (bare_alike x y (sym but_spans ∙ ap bare (texts_read_as_one (tree_text (tree_of x)) t (tree_of y) read reads)) of_x of_y);
}
