use Rattle.std.proofs.Common.{◌≡◌, ◌∙◌, false, refl, sym, subst, arith, length}
use Rattle.std.proofs.lemmas.Bool.{false≢true}
use Rattle.nextest_filter_tokens.specs.Bytes.{is_byte}
use Rattle.nextest_filter_syntax.proofs.LeafStepFacts.{grows_same}
use Rattle.nextest_filter_syntax.proofs.places.after_comma.Goals as goal

pub returns-then-has_byte-clause-goes_on : goal.returns-then-has_byte-clause-goes_on
returns-then-has_byte-clause-goes_on c =
    let report = c.in_ok-report.ensures in
    let up_to = c.close_place.ensures.up_to in
    let within = report.within (length c.args.text.now) c.requires.faults.0 (omega (arith, c.requires.at)) in
    (up_to.rises, up_to.end, (report.grows, report.keeps_syntax, (within, report.same_over c.args.text.now c.requires.faults.1 refl)))

pub returns-then-has_byte-clause-keeps : goal.returns-then-has_byte-clause-keeps
returns-then-has_byte-clause-keeps c =
    c.in_ok-report.ensures.keeps_patterns refl

pub returns-then-has_byte-clause-read : goal.returns-then-has_byte-clause-read
returns-then-has_byte-clause-read c clean =
    absurd (omega (arith, clean, c.in_ok-report.ensures.syntax refl))

pub returns-then-has_byte-clause-only : goal.returns-then-has_byte-clause-only
returns-then-has_byte-clause-only c clean none =
    let stands = sym c.has_byte.ensures ∙ c.if-has_byte.true in
    let none_here = subst (λ k. is_byte c.args.text.now k 44 ≡ false) (sym c.skip_blanks-place.ensures.value) none in
    absurd (false≢true (sym none_here ∙ stands))

pub returns-clause-goes_on : goal.returns-clause-goes_on
returns-clause-goes_on c =
    (omega arith, c.requires.at, grows_same c.args.text.now c.args.faults.now c.requires.faults)

pub returns-clause-only : goal.returns-clause-only
returns-clause-only c clean none =
    (refl, clean)
