use Rattle.std.proofs.Common.{◌∙◌, sym, arith}
use Rattle.nextest_filter_tokens.proofs.BlankFacts.{boundary_after_byte, byte_within}
use Rattle.nextest_filter_tokens.proofs.escapes.closed.Goals as goal

pub returns-in-Some-clause-end : goal.returns-in-Some-clause-end
returns-in-Some-clause-end c =
    let stands = sym c.has_byte.ensures ∙ c.if-has_byte.true in
    let within = byte_within c.args.text.now c.args.at 125 stands in
    (omega arith, omega arith, boundary_after_byte c.args.text.now c.args.at 125 c.utf8.text (omega arith) stands)
