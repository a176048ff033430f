use Rattle.std.proofs.Common.{◌≡◌, ◌∙◌, ◌-◌, ◌∷◌, ◌&&◌, false, codes, drop, length, nat_eq, take, sym, ap, arith}
use Rattle.std.proofs.lemmas.Bool.{ne_eqb}
use Rattle.std.proofs.lemmas.Grind.{common_steps}
use Rattle.std.specs.List.{starts_with}
use Rattle.nextest_filter_matchers.specs.GlobReading.{first_piece}
use Rattle.nextest_filter_matchers.proofs.ReadingFacts.{and_left, and_right, piece_first, piece_inner}
use Rattle.nextest_filter_matchers.proofs.glob_reading.piece_at.Goals as goal
use Rattle.nextest_filter_matchers.proofs.glob_reading.piece_at.Goals.{else-is_front-via-then-is_front+else-starts_with, else-is_front-via-else-is_front, else-text-eq3-via-then-text-eq3+else-starts_with-3, else-text-eq3-via-else-text-eq3}

pub returns-then-starts_with-2 : goal.returns-then-starts_with-2
returns-then-starts_with-2 c =
    let front : (c.args.is_front && starts_with nat_eq c.args.text.now (codes "**/")) ≡ false =
    elim c.else-is_front.branch [
      | else-is_front-via-then-is_front+else-starts_with w ↦ and_right _ _ (sym w.starts_with.ensures.value ∙ w.if-starts_with.false)
      | else-is_front-via-else-is_front w ↦ and_left _ _ w.if-is_front.false
    ] in
    piece_inner c.args.is_front c.args.text.now _ front (sym c.starts_with-2.ensures.value ∙ c.if-starts_with-2.true) c.after_more_directories-rest-then-starts_with-2.ensures

pub returns-in_ok-piece-in-len1-up : goal.returns-in_ok-piece-in-len1-up
returns-in_ok-piece-in-len1-up c =
    let front : (c.args.is_front && starts_with nat_eq c.args.text.now (codes "**/")) ≡ false =
    elim c.else-is_front.branch [
      | else-is_front-via-then-is_front+else-starts_with w ↦ and_right _ _ (sym w.starts_with.ensures.value ∙ w.if-starts_with.false)
      | else-is_front-via-else-is_front w ↦ and_left _ _ w.if-is_front.false
    ] in
    let inner = sym c.starts_with-2.ensures.value ∙ c.if-starts_with-2.false in
    let last : (nat_eq (length c.args.text.now) 3 && starts_with nat_eq c.args.text.now (codes "/**")) ≡ false =
    elim c.else-text-eq3.branch [
      | else-text-eq3-via-then-text-eq3+else-starts_with-3 w ↦ and_right _ _ (sym w.starts_with-then-text-eq3.ensures.value ∙ w.if-starts_with-3.false)
      | else-text-eq3-via-else-text-eq3 w ↦ and_left _ _ (ne_eqb _ _ w.if-text-eq3.false)
    ] in
    let whole : c.args.text.now ≡ c.c-item.result ∷ take (length c.args.text.now - 1) (drop 1 c.args.text.now) = grind (arith, common_steps) in
    c.in_ok-piece-in-len1-up.ensures ∙ sym (piece_first c.args.is_front c.args.text.now front inner last ∙ ap first_piece whole)
