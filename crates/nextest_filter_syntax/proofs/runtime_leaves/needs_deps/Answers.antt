use Rattle.std.proofs.Common.{codes}
use Rattle.std.proofs.lemmas.Str.Pattern.{contains_text}
use Rattle.nextest_filter_syntax.proofs.runtime_leaves.needs_deps.Goals as goal

pub returns : goal.returns
returns c = contains_text c.contains.result (codes "deps") c.args.text.now c.contains.ensures.cases
