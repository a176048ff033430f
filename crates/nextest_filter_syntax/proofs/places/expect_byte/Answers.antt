use Rattle.std.proofs.Common.{◌≡◌, ◌∙◌, ◌+◌, true, refl, inl, inr, sym, ap, subst, arith, length}
use Rattle.std.proofs.lemmas.Bool.{false≢true}
use Rattle.nextest_filter_tokens.specs.Bytes.{is_byte}
use Rattle.nextest_filter_tokens.proofs.BlankFacts.{boundary_after_byte, byte_within}
use Rattle.nextest_filter_syntax.proofs.LeafStepFacts.{grows_same}
use Rattle.nextest_filter_syntax.proofs.places.expect_byte.Goals as goal

pub returns-then-has_byte-clause-goes_on : goal.returns-then-has_byte-clause-goes_on
returns-then-has_byte-clause-goes_on c =
    let here = byte_within c.args.text.now c.skip_blanks-place.result c.args.byte (sym c.has_byte.ensures ∙ c.if-has_byte.true) in
    (omega (arith, c.skip_blanks-place.ensures.rises), omega (arith, here), grows_same c.args.text.now c.args.faults.now c.requires.faults)

pub returns-then-has_byte-clause-read : goal.returns-then-has_byte-clause-read
returns-then-has_byte-clause-read c clean =
    let stands = sym c.has_byte.ensures ∙ c.if-has_byte.true in
    (subst (λ k. is_byte c.args.text.now k c.args.byte ≡ true) c.skip_blanks-place.ensures.value stands, ap (λ k. k + 1) c.skip_blanks-place.ensures.value)

pub returns-then-has_byte-clause-place : goal.returns-then-has_byte-clause-place
returns-then-has_byte-clause-place c =
    let stands = sym c.has_byte.ensures ∙ c.if-has_byte.true in
    inr (subst (λ k. is_byte c.args.text.now k c.args.byte ≡ true) c.skip_blanks-place.ensures.value stands, ap (λ k. k + 1) c.skip_blanks-place.ensures.value)

pub returns-clause-place : goal.returns-clause-place
returns-clause-place c = inl refl

pub returns-then-has_byte-clause-only : goal.returns-then-has_byte-clause-only
returns-then-has_byte-clause-only c clean j stands =
    (ap (λ k. k + 1) c.skip_blanks-place.ensures.value ∙ sym stands.1, clean)

pub returns-clause-goes_on : goal.returns-clause-goes_on
returns-clause-goes_on c =
    let report = c.in_ok-report.ensures in
    let within = report.within (length c.args.text.now) c.requires.faults.0 c.requires.lies in
    (omega arith, c.requires.at, (report.grows, report.keeps_syntax, (within, report.same_over c.args.text.now c.requires.faults.1 c.requires.syntax)))

pub returns-clause-keeps : goal.returns-clause-keeps
returns-clause-keeps c =
    c.in_ok-report.ensures.keeps_patterns c.requires.syntax

pub returns-clause-read : goal.returns-clause-read
returns-clause-read c clean =
    absurd (omega (arith, clean, c.in_ok-report.ensures.syntax c.requires.syntax))

pub returns-clause-only : goal.returns-clause-only
returns-clause-only c clean j stands =
    let none = sym c.has_byte.ensures ∙ c.if-has_byte.false in
    let here = subst (λ k. is_byte c.args.text.now k c.args.byte ≡ true) (sym c.skip_blanks-place.ensures.value) stands.0 in
    absurd (false≢true (sym none ∙ here))

pub returns-then-has_byte-clause-boundary : goal.returns-then-has_byte-clause-boundary
returns-then-has_byte-clause-boundary c from =
    boundary_after_byte c.args.text.now c.skip_blanks-place.result c.args.byte c.utf8.text c.requires.ascii (sym c.has_byte.ensures ∙ c.if-has_byte.true)
