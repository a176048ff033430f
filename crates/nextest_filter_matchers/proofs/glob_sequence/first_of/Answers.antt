use Rattle.std.proofs.Common.{rules}
use Rattle.std.proofs.lemmas.Str.{chars_past_char}
use Rattle.nextest_filter_matchers.proofs.glob_sequence.first_of.Goals as goal

pub returns-clause-some : goal.returns-clause-some
returns-clause-some c = chars_past_char c.args.text.now c.as_str.result.now c.in_ok-first.first c.utf8.text (search rules)
