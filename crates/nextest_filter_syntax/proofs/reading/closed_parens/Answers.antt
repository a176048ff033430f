use Rattle.nextest_filter_syntax.proofs.reading.closed_parens.Goals as goal

pub returns-in_ok-in_parens-in-Ok-clause-goes_on : goal.returns-in_ok-in_parens-in-Ok-clause-goes_on
returns-in_ok-in_parens-in-Ok-clause-goes_on c =
    c.in-Ok.ensures.goes_on

pub returns-in_ok-in_parens-in-Ok-clause-keeps : goal.returns-in_ok-in_parens-in-Ok-clause-keeps
returns-in_ok-in_parens-in-Ok-clause-keeps c =
    c.in-Ok.ensures.keeps

pub returns-in_ok-in_parens-in-Ok-clause-value : goal.returns-in_ok-in_parens-in-Ok-clause-value
returns-in_ok-in_parens-in-Ok-clause-value c =
    c.in_ok-in_parens-in-Ok.ensures.value

pub returns-in_ok-in_parens-in-Ok-clause-as_written : goal.returns-in_ok-in_parens-in-Ok-clause-as_written
returns-in_ok-in_parens-in-Ok-clause-as_written c =
    c.in_ok-in_parens-in-Ok.ensures.as_written

pub returns-in_ok-in_parens-in-Ok-clause-read : goal.returns-in_ok-in_parens-in-Ok-clause-read
returns-in_ok-in_parens-in-Ok-clause-read c =
    c.in-Ok.ensures.read

pub returns-in_ok-in_parens-in-Ok-clause-only : goal.returns-in_ok-in_parens-in-Ok-clause-only
returns-in_ok-in_parens-in-Ok-clause-only c =
    c.in-Ok.ensures.only
