use Rattle.std.proofs.Common.{sym, ◌∙◌}
use Rattle.std.proofs.lemmas.Bool.{false≢true}
use Rattle.std.proofs.lemmas.List.Elements.{All-push}
use Rattle.nextest_filter_tokens.specs.FaultLists.{LiesOver, LiesWithin}
use Rattle.nextest_filter_tokens.proofs.SpanFacts.{spans_same}
use Rattle.nextest_filter_tokens.proofs.fault_list.FaultList.report.Goals as goal

pub returns-clause-within : goal.returns-clause-within
returns-clause-within c n old lies =
    rw c.in_ok-push.ensures.items (All-push (LiesWithin n) c.args.self.now.list.items c.args.fault old lies)

pub returns-clause-over : goal.returns-clause-over
returns-clause-over c text old lies =
    rw c.in_ok-push.ensures.items (All-push (LiesOver text) c.args.self.now.list.items c.args.fault old lies)

pub returns-clause-same_over : goal.returns-clause-same_over
returns-clause-same_over c text old other =
    rw c.in_ok-push.ensures.items (All-push (LiesOver text) c.args.self.now.list.items c.args.fault old (λ e. absurd (false≢true (sym other ∙ e))))

pub returns-clause-keeps_patterns : goal.returns-clause-keeps_patterns
returns-clause-keeps_patterns c other =
    rw c.in_ok-push.ensures.items (spans_same c.args.self.now.list.items c.args.fault other)
