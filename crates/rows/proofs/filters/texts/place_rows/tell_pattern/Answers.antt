use Rattle.std.proofs.lemmas.Str.{IsCharBoundary-start}
use Rattle.rows.proofs.filters.texts.place_rows.tell_pattern.Goals as goal

pub pattern_from-requires-clause-boundary : goal.pattern_from-requires-clause-boundary
pattern_from-requires-clause-boundary c = IsCharBoundary-start c.args.text.now c.utf8.text
