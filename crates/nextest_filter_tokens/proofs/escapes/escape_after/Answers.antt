use Rattle.std.proofs.Common.{arith}
use Rattle.std.proofs.lemmas.Str.{IsCharBoundary-after_ascii}
use Rattle.nextest_filter_tokens.proofs.escapes.escape_after.Goals as goal

pub returns-in-Some-clause-end : goal.returns-in-Some-clause-end
returns-in-Some-clause-end c =
    let ascii = rw c.as_bytes-bytes.ensures.value at c.in-Some.ensures.ascii in
    (omega arith, omega arith, IsCharBoundary-after_ascii c.args.text.now c.args.at c.utf8.text (omega arith) ascii)
