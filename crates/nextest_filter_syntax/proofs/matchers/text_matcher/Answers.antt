use Rattle.std.proofs.Common.{◌≡◌, Some, arith, length, sym, subst}
use Rattle.nextest_filter_syntax.specs.LeafGrammar.{made_of}
use Rattle.nextest_filter_syntax.proofs.ReadFacts.{some_is}
use Rattle.nextest_filter_syntax.proofs.matchers.text_matcher.Goals as goal

pub some_text-requires-clause-faults : goal.some_text-requires-clause-faults
some_text-requires-clause-faults c =
    c.requires.faults

pub returns-in_ok-matcher-in-Some-clause-goes_on : goal.returns-in_ok-matcher-in-Some-clause-goes_on
returns-in_ok-matcher-in-Some-clause-goes_on c =
    let text = c.args.text.now in
    let on = c.in_ok-value.ensures.goes_on in
    let made = c.in_ok-matcher-in-Some.ensures.grows in
    let within = made.2 (length text) on.2.2.0 (omega (arith, on.0, on.1)) in
    (on.0, on.1, (omega (arith, on.2.0, made.0), omega (arith, on.2.1, made.1), (within, made.3 text on.2.2.1)))

pub returns-in_ok-matcher-in-Some-clause-only : goal.returns-in_ok-matcher-in-Some-clause-only
returns-in_ok-matcher-in-Some-clause-only c clean m j from =
    let value = c.in_ok-value.ensures.only clean from.bytes j from.reads in
    let read = rw c.in-Some.is at c.in_ok-value.ensures.read value.1 in
    let same = some_is c.args.text.now read.0 from.reads in
    (value.0, c.in_ok-matcher-in-Some.ensures.only value.1 m (subst (λ xs. made_of c.args.style c.args.implicit xs ≡ Some m) (sym same.0) from.makes))
