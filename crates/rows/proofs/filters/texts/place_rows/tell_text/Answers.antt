use Rattle.std.proofs.lemmas.Str.{IsCharBoundary-start}
use Rattle.rows.proofs.filters.texts.place_rows.tell_text.Goals as goal

pub text_from-requires-clause-boundary : goal.text_from-requires-clause-boundary
text_from-requires-clause-boundary c = IsCharBoundary-start c.args.text.now c.utf8.text
