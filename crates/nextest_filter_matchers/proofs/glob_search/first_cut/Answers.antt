use Rattle.std.proofs.lemmas.Str.{IsCharBoundary-start}
use Rattle.nextest_filter_matchers.proofs.glob_search.first_cut.Goals as goal

pub returns-clause-cut : goal.returns-clause-cut
returns-clause-cut c = IsCharBoundary-start c.args.text.now c.utf8.text
