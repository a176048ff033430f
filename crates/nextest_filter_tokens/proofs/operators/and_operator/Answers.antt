use Rattle.std.proofs.Common.{sym, subst}
use Rattle.nextest_filter_tokens.specs.Operators.{FoundEndsWithin}
use Rattle.nextest_filter_tokens.proofs.EndFacts.{and_ends}
use Rattle.nextest_filter_tokens.proofs.operators.and_operator.Goals as goal

pub returns-clause-end : goal.returns-clause-end
returns-clause-end c =
    subst (FoundEndsWithin c.args.text.now c.args.at) (sym c.and_found.ensures) (and_ends c.args.text.now c.utf8.text c.args.at)
