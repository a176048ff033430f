use Rattle.std.proofs.Common.{◌++◌, ◌∷◌, ◌∙◌, ◌<◌, ap, ap₂, sym, subst, Contains, length}
use Rattle.std.specs.Str.{IsUtf8}
use Rattle.std.proofs.lemmas.List.{take-append-drop}
use Rattle.std.specs.Int.{from_le_bytes, w64}
use Rattle.test_select_c.proofs.PieceFacts.{cut_off, if_none, unnameable, unnamed, unsized}
use Rattle.test_select_c.proofs.pieces.first_file.Goals as goal

pub returns-in_err-name-clause-none : goal.returns-in_err-name-clause-none
returns-in_err-name-clause-none c = if_none _ _ c.from_residual.ensures (unnamed c.args.bytes.now c.in_err-name.ensures.none)

pub returns-in_default-clause-none : goal.returns-in_default-clause-none
returns-in_default-clause-none c =
    let named = c.in_ok-name.ensures.some in
    unnameable c.args.bytes.now c.in_ok-name.name.now c.in_ok-name.sized.now named.0 named.1 c.in_default.ensures.cases.0

pub returns-in_err-size-clause-none : goal.returns-in_err-size-clause-none
returns-in_err-size-clause-none c =
    let named = c.in_ok-name.ensures.some in
    if_none _ _ c.from_residual-in_err-size.ensures (unsized c.args.bytes.now c.in_ok-name.name.now c.in_ok-name.sized.now named.0 named.1 c.in_err-size.ensures.cases)

pub returns-in_err-content-clause-none : goal.returns-in_err-content-clause-none
returns-in_err-content-clause-none c =
    let named = c.in_ok-name.ensures.some in
    let parts = c.in_ok-size.ensures.cases in
    let whole = sym (take-append-drop 8 c.in_ok-name.sized.now) ∙ ap₂ (λ xs ys. xs ++ ys) (sym parts.1) (sym parts.2) in
    let short : length c.in_ok-size.behind.now < from_le_bytes w64 c.in_ok-size.size.now = subst (λ n. length c.in_ok-size.behind.now < n) c.number_of.ensures c.in_err-content.ensures.cases in
    if_none _ _ c.from_residual-in_err-content.ensures (cut_off c.args.bytes.now c.in_ok-name.name.now c.in_ok-size.size.now c.in_ok-size.behind.now (named.0 ∙ ap (λ xs. c.in_ok-name.name.now ++ 0 ∷ xs) whole) named.1 parts.3 short)

pub returns-clause-some : goal.returns-clause-some
returns-clause-some c =
    let named = c.in_ok-name.ensures.some in
    let text = c.in-Ok.ensures.cases in
    let parts = c.in_ok-size.ensures.cases in
    let held = c.in_ok-content.ensures.cases in
    let whole = sym (take-append-drop 8 c.in_ok-name.sized.now) ∙ ap₂ (λ xs ys. xs ++ ys) (sym parts.1) (sym parts.2) in
    let more = sym (take-append-drop c.number_of.result c.in_ok-size.behind.now) ∙ ap₂ (λ xs ys. xs ++ ys) (sym held.1) (sym held.2) in
    record {
      size = c.in_ok-size.size.now;
      whole = named.0 ∙ ap₂ (λ name xs. name ++ 0 ∷ xs) (sym text.0) (whole ∙ ap (λ xs. c.in_ok-size.size.now ++ xs) more);
      ended = subst (λ name. Contains name 0 → ⊥) (sym text.0) named.1;
      text = subst IsUtf8 (sym text.0) text.1;
      eight = parts.3;
      says = sym c.number_of.ensures ∙ sym held.3;
    }
