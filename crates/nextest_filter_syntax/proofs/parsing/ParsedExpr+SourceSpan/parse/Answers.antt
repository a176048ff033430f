use Rattle.std.proofs.Common.{arith}
use Rattle.nextest_filter_tokens.proofs.SpanFacts.{all_faults}
use Rattle.nextest_filter_syntax.proofs.parsing.ParsedExpr+SourceSpan.parse.Goals as goal

pub returns-in-Some-clause-tree : goal.returns-in-Some-clause-tree
returns-in-Some-clause-tree c t whole = rw c.in-Some.is at c.in-Ok.ensures.tree t whole

pub returns-in-Some-clause-as_written : goal.returns-in-Some-clause-as_written
returns-in-Some-clause-as_written c = rw c.in-Some.is at c.in-Ok.ensures.as_written

pub returns-in-None-clause-faults : goal.returns-in-None-clause-faults
returns-in-None-clause-faults c =
    let ok = c.in-Ok.ensures in
    let faults = c.in-Ok.answer.1 in
    let some = rw c.in-None.is at ok.spoiled in
    (some, ok.within, ok.over, ok.of_tree, ok.reads, λ reads. omega (arith, some, all_faults faults.items, faults.ok.0, ok.reads.1 reads))
