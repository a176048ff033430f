use Rattle.std.proofs.Common.{arith, ◌≡◌, ◌∙◌, ◌++◌, ap, string_bytes, append-nil, sym}
use Rattle.std.proofs.lemmas.Bool.Decides.{nat_tests}
use Rattle.std.proofs.lemmas.Grind.{common_steps}
use Rattle.std.proofs.lemmas.List.{nil_from_length}
use Rattle.std.specs.Str.Iter.{chars_rest}
use Rattle.std.proofs.Math.Utf8.{encode}
use Rattle.guppy_package_table.specs.LinkRows.{char_in_rust, name_in_rust}
use Rattle.guppy_package_table.proofs.RustNames.{name_more}
use Rattle.guppy_package_table.proofs.rust_names.rust_name.Goals as goal
use Rattle.guppy_package_table.proofs.rust_names.rust_name.Goals.{then-letter-eq45, else-letter-eq45}

pub loop-letter-preserved : goal.loop-letter-preserved
loop-letter-preserved c =
    let written : c.if-letter-eq45.push ≡ char_in_rust c.in-Some.letter = elim c.if-letter-eq45.branch [
      | then-letter-eq45 w ↦ grind (arith, nat_tests, common_steps, w.push-is, w.if-letter-eq45.true)
      | else-letter-eq45 w ↦ grind (arith, nat_tests, common_steps, w.push-is, w.if-letter-eq45.false)
    ] in
    name_more c.in-Some.letter _ _ _ _ _ c.loop-letter.invariant c.in-Some.ensures.steps.0 (c.in_ok-push.ensures.bytes ∙ ap (λ x. string_bytes c.loop-letter.text ++ encode x) written)

pub returns : goal.returns
returns c =
    let text = string_bytes c.loop-letter.text in
    let none = nil_from_length (chars_rest c.loop-letter.letters) c.in_default.ensures.steps.0.0 in
    sym (c.loop-letter.invariant ∙ ap (λ rest. text ++ name_in_rust rest) none ∙ append-nil text)
