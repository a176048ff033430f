use Rattle.std.proofs.Common.{◌≡◌, sym, ◌∙◌, subst, arith, ◌+◌}
use Rattle.std.specs.Str.{IsCharBoundary}
use Rattle.nextest_filter_tokens.proofs.BlankFacts.{boundary_after_byte}
use Rattle.nextest_filter_tokens.proofs.blanks.blank_length_at.Goals as goal
use Rattle.nextest_filter_tokens.proofs.blanks.blank_length_at.Goals.{then-has_byte, else-has_byte}

pub returns-then-has_byte-2-clause-boundary : goal.returns-then-has_byte-2-clause-boundary
returns-then-has_byte-2-clause-boundary c h =
    elim c.if-has_byte.branch [
      | then-has_byte w ↦ boundary_after_byte c.args.text.now c.args.at 32 c.utf8.text (omega arith) (sym c.has_byte.ensures ∙ w.if-has_byte.true)
      | else-has_byte w ↦ boundary_after_byte c.args.text.now c.args.at 10 c.utf8.text (omega arith) (sym w.has_byte-else-has_byte.ensures ∙ sym w.value-is ∙ c.if-has_byte-2.true)
    ]

pub returns-then-has_byte-4-clause-boundary : goal.returns-then-has_byte-4-clause-boundary
returns-then-has_byte-4-clause-boundary c h =
    let end = boundary_after_byte c.args.text.now (c.args.at + 1) 10 c.utf8.text (omega arith) (sym c.has_byte-then-has_byte-3.ensures ∙ c.if-has_byte-4.true) in
    let same : c.args.at + 1 + 1 ≡ c.args.at + 2 = omega arith in
    subst (λ k. IsCharBoundary c.args.text.now k) same end
