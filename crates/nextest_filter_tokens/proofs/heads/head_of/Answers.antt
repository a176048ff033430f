use Rattle.std.proofs.Common.{sym, subst}
use Rattle.nextest_filter_tokens.specs.Heads.{HeadEndsWithin}
use Rattle.nextest_filter_tokens.proofs.EndFacts.{head_ends}
use Rattle.nextest_filter_tokens.proofs.heads.head_of.Goals as goal

pub returns-clause-end : goal.returns-clause-end
returns-clause-end c =
    subst (HeadEndsWithin c.args.text.now c.args.at) (sym c.named_set_of.ensures) (head_ends c.args.text.now c.utf8.text c.args.at)
